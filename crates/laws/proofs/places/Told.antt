-- [02 T-04] "Refusals: 6 gains the place": where a text's reading is refused, the string question tells that place beside the span, and leaves the buffer as
-- lent; and where it tells one, the text is refused there. The same of the temporal question; and of what calls return. Assumes nothing.
use mathlib.Core.Path.{◌≡◌, refl, ap, sym, ◌∙◌}
use mathlib.Core.Bool.{Bool, true, false}
use mathlib.Core.List.{List, [], ◌∷◌, ◌++◌}
use Prim.Native.Nat.{ℕ, ◌+◌, ◌%◌, ◌<◌}
use native.Mathlib.Omega.{arith}
use lib.Dec.{leb}
use lib.ListN.{length, take, drop}
use Rattle.meaning.specs.declared.Settings.{Settings}
use Rattle.meaning.specs.declared.Span.{Span}
use Rattle.meaning.specs.declared.Literal.{Literal}
use Rattle.meaning.specs.declared.LiteralExpected.TheVariants as Expected
use Rattle.meaning.specs.declared.Refusal.{Refusal}
use Rattle.meaning.specs.declared.Refusal.TheVariants.{WrongKind, MissingSource, InvalidSourceRange, NotUtf8, InvalidInteger, InvalidString}
use Rattle.meaning.specs.declared.Refusal.TheVariants.{InvalidBitString, InvalidMoney, NoRoom, InvalidDate}
use Rattle.meaning.specs.declared.Text.{Text}
use Rattle.meaning.specs.declared.Text.TheVariants.{Borrowed, Written}
use Rattle.meaning.specs.Bytes.{◌!◌, is_mark}
use Rattle.std.specs.Prelude.{if◌then◌else◌}
use Rattle.meaning.specs.Chars.{utf8}
use Rattle.meaning.specs.Cutting.{off, segment}
use Rattle.meaning.specs.Steps.{gap, trim}
use Rattle.meaning.specs.Reading.{Answer, borrowed, written, refused, value_of, read}
use Rattle.meaning.specs.Kinds.{temporal}
use Rattle.meaning.specs.Answers.{Outcome, Meets}
use Rattle.meaning.specs.Questions.{source_text, tested, is_string, is_temporal, told_as, string_question, temporal_question}
use Rattle.meaning.specs.Codes.{is_known, literal_of, settings_of}
use Rattle.meaning.specs.Blocks.{refused_four, four_of}
use Rattle.laws.proofs.questions.Asked.{Spans, tested_passes, string_question_reads, string_question_not_utf8}
use Rattle.laws.proofs.questions.Calls.{StringCall, Shows, call_accepts}
use Rattle.laws.proofs.cutting.Cuts.{Each}
use Rattle.laws.proofs.joining.Segments.{Whole, Accepted}
use Rattle.laws.proofs.joining.Strung.{Further, strung, segments}
use Rattle.laws.proofs.places.Joined.{second, joined_place, remainder_place}
use Rattle.laws.proofs.questions.BlockReturns.{BlockCall, room_from, Returned, block_calls}
use Rattle.std.specs.Prelude.{Result, Ok, Err}

-- what a 6 at a place answers: the span, the place, and the buffer as lent
abbrev pub stopped_at : Span → ℕ → List ℕ → Outcome (Result Text Refusal)
stopped_at sp p out = record { answer = Err (InvalidString sp p); buffer = out }

-- A READING that is told as a 6 is refused, and at that place
told_refused : (sp sp' : Span) (s p : ℕ) (out : List ℕ) (a : Answer) → (told_as (InvalidString sp) s out a).answer ≡ Err (InvalidString sp' p)
    → (sp' ≡ sp) × (a ≡ refused p)
told_refused sp sp' s p out (borrowed f u) e = let z : ◌≡◌ {A = ℕ} 0 1 = cc in absurd (omega arith)
told_refused sp sp' s p out (written v) e = go (leb (length v) (length out)) e
  where
    go : (x : Bool) → (if x then Ok (Written (length v)) else Err (NoRoom (length v))) ≡ Err (InvalidString sp' p) → (sp' ≡ sp) × (written v ≡ refused p)
    go true h = let z : ◌≡◌ {A = ℕ} 0 1 = cc in absurd (omega arith)
    go false h = let z : ◌≡◌ {A = ℕ} 0 1 = cc in absurd (omega arith)
told_refused sp sp' s p out (refused q) e = let x : sp' ≡ sp = cc in let y : q ≡ p = cc in (x, ap refused y)

-- THE STRING QUESTION
module _ (l : Literal) (S t : List ℕ) (σ : Settings) (out : List ℕ) (k : is_string l.kind ≡ true) (h : Spans l S t) where
  pub place_told_lem : utf8 t ≡ true → (p : ℕ) → read σ t ≡ refused p → string_question l S σ out ≡ stopped_at l.span p out
  place_told_lem u p r = string_question_reads l S t σ out k h u ∙ ap (told_as (InvalidString l.span) l.span.start out) r

  pub told_place : (sp : Span) (p : ℕ) → (string_question l S σ out).answer ≡ Err (InvalidString sp p)
      → (sp ≡ l.span) × (utf8 t ≡ true) × (read σ t ≡ refused p)
  told_place sp p e = go (utf8 t) refl
    where
      go : (x : Bool) → utf8 t ≡ x → (sp ≡ l.span) × (utf8 t ≡ true) × (read σ t ≡ refused p)
      go false u =
          let n : Err (NotUtf8 l.span) ≡ Err (InvalidString sp p) = sym (string_question_not_utf8 l S t σ out k h u) ∙ e in
          let z : ◌≡◌ {A = ℕ} 0 1 = cc in
          absurd (omega arith)
      go true u =
          let q = sym (string_question_reads l S t σ out k h u) in
          let w = told_refused l.span sp l.span.start p out (read σ t) (ap (λ (o : Outcome (Result Text Refusal)). o.answer) q ∙ e) in
          (w.0, u, w.1)

-- THE TEMPORAL QUESTION
module _ (l : Literal) (S t out : List ℕ) (k : is_temporal l.kind ≡ true) (h : Spans l S t) where
  pub temporal_reads : utf8 t ≡ true → temporal_question l S out ≡ told_as (InvalidString l.span) l.span.start out (temporal off t)
  unfolding temporal_question
  temporal_reads u = rw (k, tested_passes Expected.Temporal l S t h u)

  temporal_not_utf8 : utf8 t ≡ false → (temporal_question l S out).answer ≡ Err (NotUtf8 l.span)
  unfolding temporal_question tested source_text
  temporal_not_utf8 u = rw (k, h.real, h.fits, h.text, u)

  pub temporal_place_told : utf8 t ≡ true → (p : ℕ) → temporal off t ≡ refused p → temporal_question l S out ≡ stopped_at l.span p out
  temporal_place_told u p r = temporal_reads u ∙ ap (told_as (InvalidString l.span) l.span.start out) r

  pub temporal_told_place : (sp : Span) (p : ℕ) → (temporal_question l S out).answer ≡ Err (InvalidString sp p)
      → (sp ≡ l.span) × (utf8 t ≡ true) × (temporal off t ≡ refused p)
  temporal_told_place sp p e = go (utf8 t) refl
    where
      go : (x : Bool) → utf8 t ≡ x → (sp ≡ l.span) × (utf8 t ≡ true) × (temporal off t ≡ refused p)
      go false u =
          let n : Err (NotUtf8 l.span) ≡ Err (InvalidString sp p) = sym (temporal_not_utf8 u) ∙ e in
          let z : ◌≡◌ {A = ℕ} 0 1 = cc in
          absurd (omega arith)
      go true u =
          let w = told_refused l.span sp l.span.start p out (temporal off t) (ap (λ (o : Outcome (Result Text Refusal)). o.answer) (sym (temporal_reads u)) ∙ e) in
          (w.0, u, w.1)

-- OF WHAT CALLS RETURN
pub place_calls : {σ : Settings} {t : List ℕ} (c : StringCall σ t) → utf8 t ≡ true → (p : ℕ) → read σ t ≡ refused p
    → (c.result ≡ Err (InvalidString c.literal.span p)) × (c.after ≡ c.lent)
place_calls {σ} {t} c u p r =
    let q = place_told_lem c.literal c.source t σ c.lent c.kind c.spans u p r in
    (c.contract.answer ∙ ap (λ (o : Outcome (Result Text Refusal)). o.answer) q, c.contract.buffer ∙ ap (λ (o : Outcome (Result Text Refusal)). o.buffer) q)

pub calls_place : {σ : Settings} {t : List ℕ} (c : StringCall σ t) (sp : Span) (p : ℕ) → c.result ≡ Err (InvalidString sp p)
    → (sp ≡ c.literal.span) × (utf8 t ≡ true) × (read σ t ≡ refused p)
calls_place {σ} {t} c sp p e = told_place c.literal c.source t σ c.lent c.kind c.spans sp p (sym c.contract.answer ∙ e)

-- A CALL of the temporal question on the text t
pub record TemporalCall (t : List ℕ) : Type 0 where
  pub literal : Literal
  pub source : List ℕ
  pub lent : List ℕ
  pub kind : is_temporal literal.kind ≡ true
  pub spans : Spans literal source t
  pub result : Result Text Refusal
  pub after : List ℕ
  pub contract : Meets (temporal_question literal source lent) result after

pub temporal_place_calls : {t : List ℕ} (c : TemporalCall t) → utf8 t ≡ true → (p : ℕ) → temporal off t ≡ refused p
    → (c.result ≡ Err (InvalidString c.literal.span p)) × (c.after ≡ c.lent)
temporal_place_calls {t} c u p r =
    let q = temporal_place_told c.literal c.source t c.lent c.kind c.spans u p r in
    (c.contract.answer ∙ ap (λ (o : Outcome (Result Text Refusal)). o.answer) q, c.contract.buffer ∙ ap (λ (o : Outcome (Result Text Refusal)). o.buffer) q)

pub temporal_calls_place : {t : List ℕ} (c : TemporalCall t) (sp : Span) (p : ℕ) → c.result ≡ Err (InvalidString sp p)
    → (sp ≡ c.literal.span) × (utf8 t ≡ true) × (temporal off t ≡ refused p)
temporal_calls_place {t} c sp p e = temporal_told_place c.literal c.source t c.lent c.kind c.spans sp p (sym c.contract.answer ∙ e)

-- "T-03 puts the place in its start field": of an item behind the numbers a of a block call that is answered
pub block_place_calls : (a : List ℕ) (k g s e : ℕ) (b S : List ℕ) (f : length a % 4 ≡ 0) (c : BlockCall (a ++ (k ∷ (g ∷ (s ∷ (e ∷ b))))) S) → c.result ≡ 0
    → is_known k 0 g ≡ true → is_string (literal_of k 0 s e).kind ≡ true → (t : List ℕ) → Spans (literal_of k 0 s e) S t → utf8 t ≡ true
    → (p : ℕ) → read (settings_of g) t ≡ refused p → take 4 (drop (length a) c.told) ≡ 6 ∷ 0 ∷ p ∷ 0 ∷ []
block_place_calls a k g s e b S f c z known string t h u p r =
    let d : List ℕ = drop (room_from c (length a)) c.lent in
    let q = place_told_lem (literal_of k 0 s e) S t (settings_of g) d string h u p r in
    let w : Returned c (length a) (Err (InvalidString (record { start = s; end = e }) p)) d =
    block_calls a k g s e b S f c z known (Err (InvalidString (record { start = s; end = e }) p)) d (rw q (record { answer = refl; buffer = refl })) in
    w.told

-- and back: what is told of it as a 6 is refused there
refused_six : (r : Refusal) → (refused_four r).number ≡ 6 → (sp : Span) × (r ≡ InvalidString sp (refused_four r).start)
refused_six (WrongKind e k) h = absurd (omega arith)
refused_six (MissingSource s) h = absurd (omega arith)
refused_six (InvalidSourceRange s) h = absurd (omega arith)
refused_six (NotUtf8 s) h = absurd (omega arith)
refused_six (InvalidInteger s) h = absurd (omega arith)
refused_six (InvalidString s p) h = (s, refl)
refused_six (InvalidBitString s) h = absurd (omega arith)
refused_six (InvalidMoney s) h = absurd (omega arith)
refused_six (NoRoom n) h = absurd (omega arith)
refused_six (InvalidDate s) h = absurd (omega arith)

four_six : (b : ℕ) (r : Result Text Refusal) → (four_of b r).number ≡ 6 → (sp : Span) × (r ≡ Err (InvalidString sp (four_of b r).start))
four_six b (Ok (Borrowed f u)) h = absurd (omega arith)
four_six b (Ok (Written n)) h = absurd (omega arith)
four_six b (Err r) h = let w = refused_six r h in (w.0, ap Err w.1)

pub block_calls_place : (a : List ℕ) (k g s e : ℕ) (b S : List ℕ) (f : length a % 4 ≡ 0) (c : BlockCall (a ++ (k ∷ (g ∷ (s ∷ (e ∷ b))))) S) → c.result ≡ 0
    → is_known k 0 g ≡ true → is_string (literal_of k 0 s e).kind ≡ true → (t : List ℕ) → Spans (literal_of k 0 s e) S t → (how p len : ℕ)
    → take 4 (drop (length a) c.told) ≡ 6 ∷ how ∷ p ∷ len ∷ [] → (utf8 t ≡ true) × (read (settings_of g) t ≡ refused p)
block_calls_place a k g s e b S f c z known string t h how p len m =
    let d : List ℕ = drop (room_from c (length a)) c.lent in
    let o : Outcome (Result Text Refusal) = string_question (literal_of k 0 s e) S (settings_of g) d in
    let w : Returned c (length a) o.answer o.buffer =
    block_calls a k g s e b S f c z known o.answer o.buffer (record { answer = refl; buffer = refl }) in
    let q = sym w.told ∙ m in
    let x = four_six (room_from c (length a)) o.answer (ap (◌! 0) q) in
    let y = told_place (literal_of k 0 s e) S t (settings_of g) d string h x.0 p
    (x.1 ∙ ap (λ (n : ℕ). Err (InvalidString x.0 n)) (ap (◌! 2) q)) in
    (y.1, y.2)

-- JOINED TEXT. The call on a segment was answered
abbrev pub Taken : Settings → List ℕ → Type 0
Taken σ s = (v : List ℕ) × (c : StringCall σ s) × Shows c v

taken_accepted : (σ : Settings) (ss : List (List ℕ)) → Each (Taken σ) ss → Each (Accepted σ) ss
taken_accepted σ [] w = tt
taken_accepted σ (s ∷ ss) w = ((w.0.0, (call_accepts w.0.1 w.0.2).value), taken_accepted σ ss w.1)

-- calls on the first segments were answered, and the call on the next was refused at q: so is the call on the whole, behind their lengths and their gaps
pub joined_calls : (σ : Settings) (s : List ℕ) (ps : List (Further σ)) (p : Further σ) (rest : List ℕ) → Whole σ s → Each (Taken σ) (segments s ps)
    → (d : StringCall σ p.text) (sp : Span) (q : ℕ) → d.result ≡ Err (InvalidString sp q) → is_mark (rest ! 0) ≡ false
    → is_mark (second (ps ++ (p ∷ [])) rest ! 0) ≡ true → (c : StringCall σ (strung s (ps ++ (p ∷ [])) rest))
    → utf8 (strung s (ps ++ (p ∷ [])) rest) ≡ true
    → (c.result ≡ Err (InvalidString c.literal.span (length (strung s ps p.gap) + q))) × (c.after ≡ c.lent)
joined_calls σ s ps p rest w taken d sp q e m k c u =
    place_calls c u (length (strung s ps p.gap) + q)
    (joined_place σ s ps p rest q w (taken_accepted σ (segments s ps) taken) (ap (value_of p.text) (calls_place d sp q e).2) m k)

-- calls on all segments were answered, and no segment follows them: the call on the whole is refused where the remainder begins
pub remainder_calls : (σ : Settings) (s : List ℕ) (ps : List (Further σ)) (rest : List ℕ) → Whole σ s → Each (Taken σ) (segments s ps)
    → is_mark (rest ! 0) ≡ false → segment σ (trim rest) ≡ 0 → 0 < length (trim rest) → is_mark (second ps rest ! 0) ≡ true
    → (c : StringCall σ (strung s ps rest)) → utf8 (strung s ps rest) ≡ true
    → (c.result ≡ Err (InvalidString c.literal.span (length (strung s ps []) + gap rest))) × (c.after ≡ c.lent)
remainder_calls σ s ps rest w taken m z l k c u =
    place_calls c u (length (strung s ps []) + gap rest) (remainder_place σ s ps rest w (taken_accepted σ (segments s ps) taken) m z l k)
