-- [02 T-05] The quick look at a date's text: ten bytes between two quote marks at its end, behind words without quote mark and $, are its value. Assumes nothing.
use mathlib.Core.Path.{◌≡◌, refl, sym, ap, ◌∙◌, subst}
use mathlib.Core.Bool.{Bool, true, false, ◌&&◌, ◌||◌, not, false≢true}
use mathlib.Core.List.{List, [], ◌∷◌, ◌++◌}
use Prim.Native.Nat.{ℕ, zero, suc, ◌+◌, ◌-◌, ◌≤◌, ◌<◌}
use Prim.Native.Char.{code}
use native.Mathlib.Omega.{arith}
use borrow.Author.Tests.{eqb-true}
use lib.Dec.{eqb, ltb}
use lib.ListN.{length, take}
use lib.Seq.{length-take-le}
use Rattle.meaning.specs.declared.CalendarDay.{CalendarDay}
use Rattle.meaning.specs.declared.Span.{Span}
use Rattle.meaning.specs.Bytes.{◌!◌, part, has, ascii, in_tag, quote}
use Rattle.std.specs.Prelude.{if◌then◌else◌, Ok}
use Rattle.meaning.specs.Cutting.{off}
use Rattle.meaning.specs.Reading.{means, value_of}
use Rattle.meaning.specs.Kinds.{temporal}
use Rattle.meaning.specs.Dates.{day_in, dated_on, dated_as}
use Rattle.laws.proofs.basics.Tests.{eqb_sym, or_left, or_right}
use Rattle.laws.proofs.dates.Spelt.{date_spelled, spelled_free}
use Rattle.laws.proofs.dates.Joined.{ends_in_e, Words, quoted, quoted_value, quoted_end}
use Rattle.kinds.specs.Tokens.{first_mark}
use Rattle.questions.specs.Quick.{Quick}
use Rattle.std.specs.Prelude.{Option, Some, None}

-- E or e
abbrev is_e : ℕ → Bool
is_e b = eqb b 69 || eqb b 101

module _ (w : List ℕ) where
  pub none_ends : length w ≡ 0 → ends_in_e w ≡ false
  unfolding ends_in_e
  none_ends e = rw e

  pub other_ends : is_e (w ! (length w - 1)) ≡ false → ends_in_e w ≡ false
  unfolding ends_in_e
  other_ends e = go (ltb 0 (length w)) (not (ltb 1 (length w) && in_tag (w ! (length w - 2))))
    where
      letters : has (w ! (length w - 1)) (ascii "Ee") ≡ false
      letters = rw (or_left (eqb (w ! (length w - 1)) 69) (eqb (w ! (length w - 1)) 101) e, or_right (eqb (w ! (length w - 1)) 69) (eqb (w ! (length w - 1)) 101) e)

      go : (x y : Bool) → (x && has (w ! (length w - 1)) (ascii "Ee") && y) ≡ false
      go true y = rw letters
      go false y = refl

-- NEITHER MARK stands before the first
before_mark : (t : List ℕ) → (has quote (take (first_mark t) t) ≡ false) × (has (code "$") (take (first_mark t) t) ≡ false)
before_mark [] = (refl, refl)
before_mark (b ∷ t) = go (eqb b quote) (eqb b (code "$")) refl refl (before_mark t)
  where
    go : (x y : Bool) → eqb b quote ≡ x → eqb b (code "$") ≡ y → (has quote (take (first_mark t) t) ≡ false) × (has (code "$") (take (first_mark t) t) ≡ false)
        → (has quote (take (if not (x || y) then suc (first_mark t) else 0) (b ∷ t)) ≡ false)
        × (has (code "$") (take (if not (x || y) then suc (first_mark t) else 0) (b ∷ t)) ≡ false)
    go true y p q i = (refl, refl)
    go false true p q i = (refl, refl)
    go false false p q i = (rw (eqb_sym quote b, p) i.0, rw (eqb_sym (code "$") b, q) i.1)

mark_there : (b : ℕ) → not (eqb b 39) ≡ false → b ≡ 39
mark_there b h = go (eqb b 39) refl h
  where
    go : (x : Bool) → eqb b 39 ≡ x → not x ≡ false → b ≡ 39
    go true e k = eqb-true b 39 e
    go false e k = absurd (false≢true (sym k))

same_place : (m k : ℕ) → not (eqb m k) ≡ false → m ≡ k
same_place m k h = go (eqb m k) refl h
  where
    go : (x : Bool) → eqb m k ≡ x → not x ≡ false → m ≡ k
    go true e j = eqb-true m k e
    go false e j = absurd (false≢true (sym j))

-- the words are so many bytes
pub words_cut : (t : List ℕ) → length t - 12 ≡ length (take (length t - 12) t)
words_cut t = sym (length-take-le (length t - 12) t (omega arith))

-- NO DAY, nothing told
pub quick_none : (t : List ℕ) → Quick t None
quick_none t = record { tells = λ c e. let z : ◌≡◌ {A = ℕ} 0 1 = cc in absurd (omega arith) }

module _ (t : List ℕ) (r : Option CalendarDay) where
  abbrev at : ℕ
  at = length t - 12

  abbrev words : List ℕ
  words = take at t

  pub quick_day : 12 ≤ length t → (not (eqb (t ! at) 39) || not (eqb (t ! (length t - 1)) 39)) ≡ false → (x : Bool) → (x ≡ false → ends_in_e words ≡ false)
      → (m : ℕ) → m ≡ first_mark t → (x || not (eqb m at)) ≡ false → r ≡ day_in (part (at + 1) (length t - 1) t) → Quick t r
  quick_day l q x e m p h d = record { tells = told }
    where
      v : List ℕ
      v = part (suc at) (length t - 1) t

      first : t ! at ≡ quote
      first = mark_there (t ! at) (or_left (not (eqb (t ! at) 39)) (not (eqb (t ! (length t - 1)) 39)) q)

      last : t ! (length t - 1) ≡ quote
      last = mark_there (t ! (length t - 1)) (or_right (not (eqb (t ! at) 39)) (not (eqb (t ! (length t - 1)) 39)) q)

      free : (has quote words ≡ false) × (has (code "$") words ≡ false)
      free =
          let k : first_mark t ≡ at = sym p ∙ same_place m at (or_right x (not (eqb m at)) h) in
          subst (λ (i : ℕ). (has quote (take i t) ≡ false) × (has (code "$") (take i t) ≡ false)) k (before_mark t)

      is_words : Words words
      is_words = record { no_quote = free.0; no_dollar = free.1; no_e = e (or_left x (not (eqb m at)) h) }

      told : (c : CalendarDay) → r ≡ Some c → (v : List ℕ) × (value_of t (temporal off t) ≡ means v) × (day_in v ≡ Some c)
      told c o =
          let z : at + 1 ≡ suc at = omega arith in
          let w : day_in v ≡ Some c = sym (d ∙ ap (λ (k : ℕ). day_in (part k (length t - 1) t)) z) ∙ o in
          let s = date_spelled v c w in
          let nq : has quote v ≡ false = rw s.1 (spelled_free quote c.year c.month c.day (omega arith)) in
          let nz : has 0 v ≡ false = rw s.1 (spelled_free 0 c.year c.month c.day (omega arith)) in
          let its : value_of (words ++ quoted v) (temporal off (words ++ quoted v)) ≡ means v = quoted_value words v is_words nq nz in
          let u : t ≡ words ++ quoted v = quoted_end t at (omega arith) first last in
          (v, subst (λ (k : List ℕ). value_of k (temporal off k) ≡ means v) (sym u) its, w)

-- WHAT IS TOLD is the text's day
