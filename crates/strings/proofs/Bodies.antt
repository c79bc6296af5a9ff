-- A body in its text: what reading its part says of the text, where it lies, and what a text that is spelled with it means. Assumes nothing.
use mathlib.Core.Path.{◌≡◌, refl, ap, sym, ◌∙◌, subst}
use mathlib.Core.Bool.{Bool, true, false}
use mathlib.Core.List.{List}
use Prim.Native.Nat.{ℕ, ◌+◌, ◌-◌, ◌≤◌}
use native.Mathlib.Omega.{arith}
use lib.Dec.{eqb, leb}
use lib.ListN.{length, take, drop, length-take}
use borrow.Author.Tests.{eq-eqb, ne_eqb}
use Rattle.meaning.specs.declared.Settings.{Settings}
use Rattle.meaning.specs.declared.ReadText.{ReadText}
use Rattle.meaning.specs.declared.ReadRefusal.{ReadRefusal}
use Rattle.meaning.specs.declared.ReadText.TheVariants as ReadText'
use Rattle.meaning.specs.declared.ReadRefusal.TheVariants as ReadRefusal'
use Rattle.meaning.specs.Bytes.{part, has, dquote}
use Rattle.std.specs.Prelude.{if◌then◌else◌, Result, Ok, Err}
use Rattle.meaning.specs.Walk.{Trace, size, stops, plain, value, walk}
use Rattle.meaning.specs.Steps.{unicode_step}
use Rattle.meaning.specs.Spelling.{Spelling, spelling, unicode_spelling}
use Rattle.meaning.specs.Reading.{Answer, borrowed, written, refused, answer, read_as, one}
use Rattle.meaning.specs.Reads.{read_of, buffer_of, Reads}
use Rattle.meaning.specs.Helpers.{if_unicode, ident}
use Rattle.laws.proofs.questions.Owed.{reads_refused, reads_borrowed}
use Rattle.laws.proofs.questions.Ranges.{Bounds, between_range, BodyIn, spelling_body, unicode_body}
use Rattle.laws.proofs.walking.Short.{course_size}
use Rattle.cutting.specs.declared.marks.Mark.{Mark}
use Rattle.cutting.specs.Marks.{mark_of}
use Rattle.escapes.specs.declared.units.Family.{Family}
use Rattle.escapes.specs.declared.units.Family.TheVariants.{Standard, Escape, Unicode}
use Rattle.escapes.specs.Families.{step_of, checks, course_of}
use Rattle.escapes.proofs.Turns.{steady}
use Rattle.spellings.specs.declared.spelling.Body.{Body}
use Rattle.spellings.specs.declared.spelling.Spelled.{Spelled}
use Rattle.spellings.specs.declared.spelling.Spelled.TheVariants as Spelled'
use Rattle.spellings.specs.Spelled.{escape_of, spelling_by, spelled_of, EscapeInside, StringFamily, StringSpelled, Spells, Lexes}
use Rattle.strings.specs.Answers.{BodyInside, body_of, SpelledInside, spelled_as, SpellsAlone, placed_of, place_of, lexeme_of}

-- A PART's answer on the text that holds it from f to u
module _ (f u n : ℕ) (c : Trace) (out after : List ℕ) (r : Result ReadText ReadRefusal) (k : Reads (answer 0 n c) out r after) where
  abbrev read_part : Bool → Bool → Answer
  read_part x y = if x then borrowed 0 n else if y then refused (0 + size c) else written (value c)

  part_place_lem : size c ≤ n → place_of r ≤ n
  unfolding answer
  part_place_lem h = go (plain c) (stops c) k.answer
    where
      room : (z : Bool) → place_of (if z then Ok (ReadText'.Written (length (value c))) else Err (ReadRefusal'.NoRoom (length (value c)))) ≤ 0
      room true = omega arith
      room false = omega arith

      go : (x y : Bool) → r ≡ read_of (length out) (read_part x y) → place_of r ≤ n
      go true y e = omega (arith, ap place_of e)
      go false true e = omega (arith, ap place_of e)
      go false false e = omega (arith, ap place_of e, room (leb (length (value c)) (length out)))

  part_reads : Reads (answer f u c) out (placed_of f u r) after
  unfolding answer
  part_reads = go (plain c) (stops c) k.answer k.buffer
    where
      room : (z : Bool) → let w = Ok (ReadText'.Written (length (value c))) in let s = Err (ReadRefusal'.NoRoom (length (value c))) in
          placed_of f u (if z then w else s) ≡ (if z then w else s)
      room true = refl
      room false = refl

      go : (x y : Bool) → r ≡ read_of (length out) (read_part x y) → after ≡ buffer_of out (read_part x y)
          → Reads (if x then borrowed f u else if y then refused (f + size c) else written (value c)) out (placed_of f u r) after
      go true y e b = record { answer = ap (placed_of f u) e; buffer = b }
      go false true e b = record { answer = ap (placed_of f u) e ∙ ap (λ n. Err (ReadRefusal'.At n)) (omega arith); buffer = b }
      go false false e b = record { answer = ap (placed_of f u) e ∙ room (leb (length (value c)) (length out)); buffer = b }

-- AN ESCAPE CHARACTER: the one that is lent, where its part of the text is empty
module _ (t own : List ℕ) (a z : ℕ) where
  pub escape_lent : a ≡ z → own ≡ (if eqb a z then own else part a z t)
  escape_lent h = rw (eq-eqb a z h)

  pub escape_chosen : (a ≡ z → ⊥) → take (z - a) (drop a t) ≡ (if eqb a z then own else part a z t)
  escape_chosen h = rw (ne_eqb a z h)

-- A BODY, by its escape character
module _ (t : List ℕ) (b : Body) (i : BodyInside (length t) b) (out after : List ℕ) (r : Result ReadText ReadRefusal) where
  abbrev body : List ℕ
  body = take (b.until - b.from) (drop b.from t)

  abbrev ReadBy : List ℕ → Type 0
  ReadBy e = Reads (answer 0 (length body) (course_of b.family e body)) out r after

  pub body_fits : (e : List ℕ) → ReadBy e → b.from + place_of r ≤ b.until
  body_fits e k =
      let s = course_size (checks b.family) (step_of b.family e) (steady b.family e) body in
      let p = part_place_lem b.from b.until (length body) (course_of b.family e body) out after r k s in
      omega (arith, p, length-take (b.until - b.from) (drop b.from t), i.ordered)

  pub body_reads : (e : List ℕ) → e ≡ escape_of t b.escape_from b.escape_until → ReadBy e → (s : Result ReadText ReadRefusal) → s ≡ placed_of b.from b.until r
      → Reads (body_of t b) out s after
  body_reads e ee k s q =
      rw q (subst (λ (x : List ℕ). Reads (answer b.from b.until (course_of b.family x body)) out (placed_of b.from b.until r) after) ee
      (part_reads b.from b.until (length body) (course_of b.family e body) out after r k))

-- WHERE IT LIES, by the spelling of its text
inside_by : (t : List ℕ) (b : Body) (s : Spelling) → spelled_of t (Spelled'.Body b) ≡ s → EscapeInside (length t) (Spelled'.Body b) → BodyIn (length t) s
    → BodyInside (length t) b
inside_by t b s e i k =
    let o = go b.family (subst (BodyIn (length t)) (sym e) k) in
    record { ordered = o.ordered; within = o.inside; escape_ordered = i.0; escape_within = i.1 }
  where
    go : (f : Family) → BodyIn (length t) (spelling_by (escape_of t b.escape_from b.escape_until) f b.from b.until)
        → Bounds (length t) b.from b.until
    go (Standard m bs) k = between_range k
    go Escape k = between_range k
    go (Unicode m) k = between_range k

-- A TEXT READ AS ONE
pub alone_nul : (σ : Settings) (t : List ℕ) (x : Bool) → x ≡ has 0 t → x ≡ true → SpellsAlone σ t Spelled'.Unspelt
unfolding one
alone_nul σ t x e q = record { inside = tt; means = rw (sym e ∙ q) }

alone_inside : (x : Bool) (t : List ℕ) (s : Spelled) → Spells x t s (spelling t) → SpelledInside (length t) s
alone_inside x t (Spelled'.Body b) k = inside_by t b (spelling t) k.means k.inside (spelling_body t)
alone_inside x t (Spelled'.Dollar f u) k = tt
alone_inside x t Spelled'.Unspelt k = tt

alone_means : (σ : Settings) (t : List ℕ) (s : Spelled) → StringSpelled σ.backslash s → read_as σ t (spelled_of t s) ≡ spelled_as t s
alone_means σ t (Spelled'.Body b) h = go b.family h
  where
    e : List ℕ
    e = escape_of t b.escape_from b.escape_until

    go : (f : Family) → StringFamily σ.backslash f
        → read_as σ t (spelling_by e f b.from b.until) ≡ answer b.from b.until (course_of f e (part b.from b.until t))
    go (Standard m bs) h = rw h
    go Escape h = refl
    go (Unicode m) h = rw h
alone_means σ t (Spelled'.Dollar f u) h = refl
alone_means σ t Spelled'.Unspelt h = refl

pub alone_spelled : (σ : Settings) (t : List ℕ) (x : Bool) → x ≡ has 0 t → x ≡ false → (s : Spelled) → Spells σ.backslash t s (spelling t)
    → SpellsAlone σ t s
unfolding one
alone_spelled σ t x nul none s k =
    record {
      inside = alone_inside σ.backslash t s k;
      means = rw (sym nul ∙ none) (ap (read_as σ t) (sym k.means) ∙ alone_means σ t s k.family);
    }

pub alone_reads : (σ : Settings) (t : List ℕ) (s : Spelled) → SpellsAlone σ t s → (out : List ℕ) (r : Result ReadText ReadRefusal) (after : List ℕ)
    → Reads (spelled_as t s) out r after → Reads (one σ t) out r after
alone_reads σ t s k out r after g = rw k.means g

-- A TEXT AS IT IS SPELLED
module _ (t : List ℕ) (s : Spelled) where
  pub spelled_inside : SpelledInside (length t) s → (b : Body) → s ≡ Spelled'.Body b → BodyInside (length t) b
  spelled_inside i b q = subst (SpelledInside (length t)) q i

  pub spelled_body : (b : Body) → s ≡ Spelled'.Body b → (out : List ℕ) (r : Result ReadText ReadRefusal) (after : List ℕ) → Reads (body_of t b) out r after
      → Reads (spelled_as t s) out r after
  spelled_body b q out r after g = rw q g

  pub spelled_dollar : (f u : ℕ) → s ≡ Spelled'.Dollar f u → (out : List ℕ) → Reads (spelled_as t s) out (Ok (ReadText'.Borrowed f u)) out
  spelled_dollar f u q out = reads_borrowed (spelled_as t s) out f u (ap (spelled_as t) q)

  pub spelled_not : s ≡ Spelled'.Unspelt → (out : List ℕ) → Reads (spelled_as t s) out (Err (ReadRefusal'.At 0)) out
  spelled_not q out = reads_refused (spelled_as t s) out 0 (ap (spelled_as t) q)

-- U& WITH A MARK
module _ (m : Mark) (t : List ℕ) (s : Spelled) (k : Lexes m t s) where
  pub lexeme_inside : (b : Body) → s ≡ Spelled'.Body b → BodyInside (length t) b
  lexeme_inside b q = let l = rw q at k in inside_by t b (unicode_spelling (mark_of m) t) l.means l.inside (unicode_body (mark_of m) t)

  pub lexeme_body : (b : Body) → s ≡ Spelled'.Body b → (r : Result ReadText ReadRefusal) (out after : List ℕ) → Reads (body_of t b) out r after
      → Reads (lexeme_of (mark_of m) t) out r after
  unfolding lexeme_of
  lexeme_body b q r out after g =
      let l = rw q at k in
      subst (λ (a : Answer). Reads a out r after) (sym (ap (if_unicode says (refused 0)) (sym l.means) ∙ go b.family l.family)) g
    where
      e : List ℕ
      e = escape_of t b.escape_from b.escape_until

      says : List ℕ → ℕ → ℕ → Answer
      says e f u = answer f u (walk (unicode_step e (mark_of m)) 0 (part f u t))

      go : (f : Family) → f ≡ Unicode m → if_unicode says (refused 0) (spelling_by e f b.from b.until)
          ≡ answer b.from b.until (course_of f e (part b.from b.until t))
      go f h = rw h

  lexeme_dollar : (f u : ℕ) → s ≡ Spelled'.Dollar f u → (out : List ℕ) → Reads (lexeme_of (mark_of m) t) out (Err (ReadRefusal'.At 0)) out
  lexeme_dollar f u q out = let l = rw q at k in absurd l.family

  lexeme_unspelt : s ≡ Spelled'.Unspelt → (out : List ℕ) → Reads (lexeme_of (mark_of m) t) out (Err (ReadRefusal'.At 0)) out
  unfolding lexeme_of
  lexeme_unspelt q out =
      let l = rw q at k in
      reads_refused (lexeme_of (mark_of m) t) out 0
      (ap (if_unicode (λ e f u. answer f u (walk (unicode_step e (mark_of m)) 0 (part f u t))) (refused 0)) (sym l.means))

  pub lexeme_other : ((b : Body) → s ≡ Spelled'.Body b → ⊥) → (out : List ℕ) → Reads (lexeme_of (mark_of m) t) out (Err (ReadRefusal'.At 0)) out
  lexeme_other h out = go s refl
    where
      go : (x : Spelled) → s ≡ x → Reads (lexeme_of (mark_of m) t) out (Err (ReadRefusal'.At 0)) out
      go (Spelled'.Body b) q = absurd (h b q)
      go (Spelled'.Dollar f u) q = lexeme_dollar f u q out
      go Spelled'.Unspelt q = lexeme_unspelt q out

pub ident_reads : (t out : List ℕ) (r : Result ReadText ReadRefusal) (after : List ℕ) → Reads (lexeme_of dquote t) out r after → Reads (ident t) out r after
unfolding lexeme_of ident
ident_reads t out r after k = k
