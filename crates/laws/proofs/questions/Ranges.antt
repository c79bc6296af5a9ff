-- A borrowed answer is a part of the text: its range lies inside. So a text that is UTF-8 and means v shows v, borrowed or written. Assumes nothing.
use mathlib.Core.Path.{◌≡◌, refl, ap, sym, ◌∙◌}
use mathlib.Core.Bool.{Bool, true, false, ◌&&◌, ◌||◌}
use mathlib.Core.List.{List, [], ◌∷◌, ◌++◌}
use Prim.Native.Nat.{ℕ, zero, suc, ◌+◌, ◌-◌, ◌≤◌, ◌<◌}
use Prim.Native.Char.{code}
use native.Mathlib.Omega.{arith}
use lib.Dec.{eqb, leb, ltb}
use lib.ListN.{length, take, drop, length-append, length-drop, length-take, take-append-drop}
use lib.Seq.{drop-drop, take-append-le, drop-append-le, take-append_seam}
use borrow.Author.Tests.{ltb-true, ltb-false, leb-true, le-leb}
use Rattle.meaning.specs.declared.Settings.{Settings}
use Rattle.meaning.specs.declared.Span.{Span}
use Rattle.meaning.specs.declared.Literal.{Literal}
use Rattle.meaning.specs.declared.Refusal.{Refusal}
use Rattle.meaning.specs.declared.Refusal.TheVariants.{InvalidString}
use Rattle.meaning.specs.declared.Text.{Text}
use Rattle.meaning.specs.Bytes.{◌!◌, part, has, ascii, same, is_mark, quote, dquote}
use Rattle.std.specs.Prelude.{if◌then◌else◌}
use Rattle.meaning.specs.Chars.{utf8}
use Rattle.meaning.specs.Walk.{Trace, walk, size, stops, plain, value}
use Rattle.meaning.specs.Steps.{closing_step, trim}
use Rattle.meaning.specs.Cutting.{opening, segment, continues, cut}
use Rattle.meaning.specs.Spelling.{Spelling, standard, escape, unicode, dollar, unspelt, encloses, chosen, unicode_by, closed_unicode, is_unicode, unicode_spelling}
use Rattle.meaning.specs.Spelling.{delimiter, dollar_by, spelling}
use Rattle.meaning.specs.Reading.{Answer, borrowed, written, refused, Value, means, fails, value_of, answer, read_as, one, joined, as_written, read}
use Rattle.meaning.specs.Kinds.{Token, token, no_token, temporal_token, behind, read_token, temporal}
use Rattle.meaning.specs.Answers.{Outcome, text_number, part_shown, shown, filled}
use Rattle.meaning.specs.Questions.{cuts_character, bad_span, is_string, told_as, string_question}
use Rattle.laws.proofs.basics.Tests.{true→T, and_left, and_right, or_left, or_right}
use Rattle.laws.proofs.walking.Walks.{stops_inside}
use Rattle.laws.proofs.writing.Unchanged.{ReadsBack, unchanged, longer, back_means}
use Rattle.laws.proofs.joining.Joining.{fails≢means}
use Rattle.laws.proofs.questions.Asked.{Spans, string_question_reads}
use Rattle.laws.proofs.joining.JoiningLaw.{Accepts}
use Rattle.std.specs.Prelude.{Result}

-- from f up to u, in a text of n bytes
pub record Bounds (n f u : ℕ) : Type 0 where
  pub ordered : f ≤ u
  pub inside : u ≤ n

-- the same with a byte before it and one behind it, its marks
pub record Between (n f u : ℕ) : Type 0 where
  pub opened : 1 ≤ f
  pub ordered : f ≤ u
  pub closed : u < n

pub between_range : {n f u : ℕ} → Between n f u → Bounds n f u
between_range b = record { ordered = b.ordered; inside = omega arith }

-- a spelling's body; an answer's range
abbrev pub BodyIn : ℕ → Spelling → Type 0
BodyIn n (standard q f u) = Between n f u
BodyIn n (escape f u) = Between n f u
BodyIn n (unicode e f u) = Between n f u
BodyIn n (dollar f u) = Between n f u
BodyIn n unspelt = Unit {0}

abbrev pub AnswerIn : ℕ → Answer → Type 0
AnswerIn n (borrowed f u) = Bounds n f u
AnswerIn n (written v) = Unit {0}
AnswerIn n (refused p) = Unit {0}

-- behind a mark at place k, before the mark at the end
enclosed_body : (k q : ℕ) (t : List ℕ) → encloses k q t ≡ true → Between (length t) (suc k) (length t - 1)
unfolding encloses
enclosed_body k q t h =
    let l = ltb-true (suc k) (length t) (and_left (ltb (suc k) (length t)) (eqb (t ! k) q)
    (and_left (ltb (suc k) (length t) && eqb (t ! k) q) (eqb (t ! (length t - 1)) q) h)) in
    record { opened = omega arith; ordered = omega arith; closed = omega arith }

pub enclosed_range : (k q : ℕ) (t : List ℕ) → encloses k q t ≡ true → Bounds (length t) (suc k) (length t - 1)
enclosed_range k q t h = between_range (enclosed_body k q t h)

-- the case that a test chooses
pick : (n : ℕ) (x : Bool) (a b : Spelling) → (x ≡ true → BodyIn n a) → BodyIn n b → BodyIn n (if x then a else b)
pick n true a b f g = f refl
pick n false a b f g = g

charset_body : (t : List ℕ) → (eqb (t ! 0) (code "_") && ltb 0 (opening t) && encloses (opening t - 1) (t ! (opening t - 1)) t) ≡ true
    → Between (length t) (opening t) (length t - 1)
charset_body t h =
    let l = ltb-true 0 (opening t) (and_right (eqb (t ! 0) (code "_")) (ltb 0 (opening t)) (and_left _ (encloses (opening t - 1) (t ! (opening t - 1)) t) h)) in
    let r = enclosed_body (opening t - 1) (t ! (opening t - 1)) t (and_right (eqb (t ! 0) (code "_") && ltb 0 (opening t)) _ h) in
    record { opened = omega arith; ordered = omega arith; closed = r.closed }

unicode_by_body : (n : ℕ) (e : List ℕ) (u : ℕ) → Between n 3 u → BodyIn n (unicode_by e u)
unicode_by_body n [] u r = tt
unicode_by_body n (b ∷ e) u r = r

pub unicode_body : (q : ℕ) (t : List ℕ) → BodyIn (length t) (unicode_spelling q t)
unfolding unicode_spelling
unicode_body q t =
    pick (length t) (is_unicode q t) (closed_unicode t r) unspelt
    (λ i. pick (length t) (stops r) (unicode_by e (3 + size r)) unspelt (λ h. unicode_by_body (length t) e (3 + size r) (between h)) tt)
    tt
  where
    r : Trace
    r = walk (closing_step false q) 0 (drop 3 t)

    e : List ℕ
    e = chosen (trim (drop (4 + size r) t))

    between : stops r ≡ true → Between (length t) 3 (3 + size r)
    between h =
        let l = stops_inside (closing_step false q) 0 (drop 3 t) (true→T (stops r) h) in
        let d = length-drop 3 t in
        record { opened = omega arith; ordered = omega arith; closed = omega arith }

dollar_body : (t : List ℕ) (n : ℕ) → BodyIn (length t) (dollar_by t n)
dollar_body t zero = tt
dollar_body t (suc n) =
    pick (length t) (leb (suc n + suc n) (length t) && twice) (dollar (suc n) (length t - suc n)) unspelt
    between tt
  where
    twice : Bool
    twice = same (take (suc n) t) (drop (length t - suc n) t)

    between : (leb (suc n + suc n) (length t) && twice) ≡ true → Between (length t) (suc n) (length t - suc n)
    between h =
        let l = leb-true (suc n + suc n) (length t) (and_left (leb (suc n + suc n) (length t)) twice h) in
        record { opened = omega arith; ordered = omega arith; closed = omega arith }

pub spelling_body : (t : List ℕ) → BodyIn (length t) (spelling t)
unfolding spelling
spelling_body t =
    pick (length t) (encloses 0 quote t) _ _ (enclosed_body 0 quote t)
    (pick (length t) (encloses 0 dquote t) _ _ (enclosed_body 0 dquote t)
    (pick (length t) _ _ _ (λ h. enclosed_body 1 quote t (and_right (has (t ! 0) (ascii "Ee")) (encloses 1 quote t) h))
    (pick (length t) _ _ _ (λ h. enclosed_body 1 quote t (and_right (has (t ! 0) (ascii "Nn")) (encloses 1 quote t) h))
    (pick (length t) _ _ _ (charset_body t)
    (pick (length t) (is_unicode quote t) _ _ (λ h. unicode_body quote t) (dollar_body t (delimiter t)))))))

-- what is read
answer_inside : (n f u : ℕ) (r : Trace) → Bounds n f u → AnswerIn n (answer f u r)
unfolding answer
answer_inside n f u r h = go (plain r) (stops r)
  where
    go : (x y : Bool) → AnswerIn n (if x then borrowed f u else if y then refused (f + size r) else written (value r))
    go true y = h
    go false true = tt
    go false false = tt

as_inside : (σ : Settings) (t : List ℕ) (s : Spelling) → BodyIn (length t) s → AnswerIn (length t) (read_as σ t s)
as_inside σ t (standard q f u) h = answer_inside (length t) f u _ (between_range h)
as_inside σ t (escape f u) h = answer_inside (length t) f u _ (between_range h)
as_inside σ t (unicode e f u) h = answer_inside (length t) f u _ (between_range h)
as_inside σ t (dollar f u) h = between_range h
as_inside σ t unspelt h = tt

pub one_inside : (σ : Settings) (t : List ℕ) → AnswerIn (length t) (one σ t)
unfolding one
one_inside σ t = go (has 0 t)
  where
    go : (x : Bool) → AnswerIn (length t) (if x then refused 0 else read_as σ t (spelling t))
    go true = tt
    go false = as_inside σ t (spelling t) (spelling_body t)

pub read_inside : (σ : Settings) (t : List ℕ) → AnswerIn (length t) (read σ t)
unfolding read
read_inside σ t = go (continues σ t) (joined σ (cut σ t))
  where
    go : (x : Bool) (j : Value) → AnswerIn (length t) (if x then as_written j else one σ t)
    go true (means v) = tt
    go true (fails p) = tt
    go false j = one_inside σ t

-- A TEMPORAL TEXT's is that of its token, moved on; a token that lies past the text's end is empty, and refused
empty_refused : (σ : Settings) → read σ [] ≡ refused 0
unfolding read continues segment one spelling encloses is_unicode delimiter is_mark
empty_refused σ = refl

pub temporal_inside : (σ : Settings) (t : List ℕ) → AnswerIn (length t) (temporal σ t)
unfolding temporal
temporal_inside σ t = go (temporal_token t)
  where
    moved : (f : ℕ) (p : List ℕ) → 0 < length p → length p ≤ length t - f → (a : Answer) → AnswerIn (length p) a → AnswerIn (length t) (behind f a)
    moved f p some fits (borrowed g w) i = record { ordered = omega (arith, i.ordered); inside = omega (arith, i.inside) }
    moved f p some fits (written v) i = tt
    moved f p some fits (refused q) i = tt

    by_part : (f : ℕ) (p : List ℕ) → length p ≤ length t - f → AnswerIn (length p) (read σ p) → AnswerIn (length t) (behind f (read σ p))
    by_part f [] fits i = rw (empty_refused σ) tt
    by_part f (b ∷ p) fits i = moved f (b ∷ p) (omega arith) fits (read σ (b ∷ p)) i

    go : (k : Token) → AnswerIn (length t) (read_token σ t k)
    go no_token = tt
    go (token f u) = by_part f (part f u t) (rw (length-take, length-drop) (omega arith)) (read_inside σ (part f u t))

-- PARTS OF PARTS. What follows a text changes no part of it
pub part_front : (f u : ℕ) (t r : List ℕ) → Bounds (length t) f u → part f u (t ++ r) ≡ part f u t
part_front f u t r h =
    let d = length-drop f t in
    rw (drop-append-le f t r (omega arith), take-append-le (u - f) (drop f t) r (omega arith))

-- a part of the text in a span is a part of the source
pub part_inside : (s e f u : ℕ) (S : List ℕ) → Bounds (length (part s e S)) f u → part (s + f) (s + u) S ≡ part f u (part s e S)
part_inside s e f u S h =
    let z : s + u - (s + f) ≡ u - f = omega arith in
    rw (z, ← drop-drop f s S) (sym (ap (part f u) (take-append-drop (e - s) (drop s S))) ∙ part_front f u (part s e S) (drop (e - s) (drop s S)) h)

-- a span that gives no 3 is a range of the source
pub span_range : (s : Span) (S : List ℕ) → bad_span s S ≡ false → Bounds (length S) s.start s.end
unfolding bad_span
span_range s S h =
    let k = or_left (ltb s.end s.start || ltb (length S) s.end) (cuts_character s.start S)
    (or_left (ltb s.end s.start || ltb (length S) s.end || cuts_character s.start S) (cuts_character s.end S) h) in
    record {
      ordered = ltb-false s.end s.start (or_left (ltb s.end s.start) (ltb (length S) s.end) k);
      inside = ltb-false (length S) s.end (or_right (ltb s.end s.start) (ltb (length S) s.end) k);
    }

-- THE VIEW
pub part_shown_range : (f u : ℕ) (t : List ℕ) → Bounds (length t) f u → part_shown f u t ≡ part f u t
unfolding part_shown
part_shown_range f u t h = rw (le-leb f u h.ordered, le-leb u (length t) h.inside)

pub filled_shows : (v out : List ℕ) → length v ≤ length out → part_shown 0 (length v) (filled v out) ≡ v
unfolding filled
filled_shows v out h =
    let z : length v - 0 ≡ length v = omega arith in
    rw (le-leb (length v) (length out) h)
    (part_shown_range 0 (length v) (v ++ drop (length v) out) (record { ordered = omega arith; inside = rw length-append (omega arith) })
    ∙ rw z (take-append_seam v (drop (length v) out)))

-- a question is answered, and v is shown
pub record Answered (S v : List ℕ) (o : Outcome (Result Text Refusal)) : Type 0 where
  pub number : text_number o.answer ≡ 0
  pub shows : shown S o.buffer o.answer ≡ v

-- room for what is written: a borrowed text needs none
abbrev pub RoomFor : Answer → List ℕ → Type 0
RoomFor (borrowed f u) out = Unit {0}
RoomFor (written v) out = length v ≤ length out
RoomFor (refused p) out = Unit {0}

told_answered : (bad : ℕ → Refusal) (s e : ℕ) (S out v : List ℕ) → Bounds (length S) s e → (a : Answer) → RoomFor a out
    → AnswerIn (length (part s e S)) a → value_of (part s e S) a ≡ means v → Answered S v (told_as bad s out a)
told_answered bad s e S out v r (borrowed f u) h i m =
    let n : length (part s e S) ≤ length S - s = rw (length-take, length-drop) (omega arith) in
    record {
      number = refl;
      shows = part_shown_range (s + f) (s + u) S (record { ordered = omega arith; inside = omega arith }) ∙ part_inside s e f u S i ∙ (cc);
    }
told_answered bad s e S out v r (written w) h i m =
    let z : v ≡ w = cc in
    rw z (record { number = rw (le-leb (length w) (length out) h); shows = rw (le-leb (length w) (length out) h) (filled_shows w out h) })
told_answered bad s e S out v r (refused p) h i m = absurd (fails≢means p v m)

-- A TEXT THAT IS ACCEPTED AND MEANS v shows v, where it fits a span and the buffer has room for what is written
module _ (l : Literal) (S t v : List ℕ) (σ : Settings) (out : List ℕ) (k : is_string l.kind ≡ true) (h : Spans l S t) (a : Accepts σ t v) where
  pub string_shown : RoomFor (read σ t) out → Answered S v (string_question l S σ out)
  string_shown r =
      rw (string_question_reads l S t σ out k h a.valid)
      (told_answered (InvalidString l.span) l.span.start l.span.end S out v (span_range l.span S h.fits) (read σ t) r
      (rw h.text (read_inside σ t)) (rw h.text a.value))

  -- so where there is room for v
  pub string_answered : length v ≤ length out → Answered S v (string_question l S σ out)
  string_answered r = string_shown (go (read σ t) a.value)
    where
      go : (x : Answer) → value_of t x ≡ means v → RoomFor x out
      go (borrowed f u) m = tt
      go (written w) m = let z : w ≡ v = cc in rw z r
      go (refused p) m = tt

-- A TEXT THAT READS BACK AS v shows v: where it is no longer than v, its opening and its mark it is borrowed, and needs no room
pub back_answered : (l : Literal) (S : List ℕ) {o t v : List ℕ} (σ : Settings) (out : List ℕ) → is_string l.kind ≡ true → Spans l S t → utf8 t ≡ true
    → ReadsBack σ o t v → (length v + suc (length o) < length t → length v ≤ length out) → Answered S v (string_question l S σ out)
back_answered l S {o} {t} {v} σ out k h u b r = string_shown l S t v σ out k h (record { valid = u; value = back_means b }) (room b)
  where
    room : ReadsBack σ o t v → RoomFor (read σ t) out
    room (unchanged e q) = rw q tt
    room (longer m q) = rw q (r m)
