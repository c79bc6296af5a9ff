-- Digits of a base with `_` between two of them: what they are to the definitions, and what a loop over them keeps. One argument for every
-- base up to 16, and for every way to hold the number. Assumes nothing.
use mathlib.Core.Path.{◌≡◌, refl, sym, ◌∙◌}
use mathlib.Core.Bool.{Bool, true, false, ◌&&◌}
use mathlib.Core.List.{List, [], ◌∷◌}
use Prim.Native.Nat.{ℕ, ◌+◌, ◌*◌, ◌≤◌, ◌<◌}
use Prim.Native.Char.{code}
use native.Mathlib.Nat.{le_trans, mul-le-mul_left, mul-one, le-add_right}
use native.Mathlib.Numerals.{add-one}
use native.Mathlib.Omega.{arith}
use borrow.Author.Tests.{lt-ltb, le-ltb}
use lib.Dec.{eqb, ltb}
use lib.ListN.{length, drop, get_or, drop_of_length-le}
use lib.Seq.{drop-cons}
use Rattle.meaning.specs.Bytes.{◌!◌, digit}
use Rattle.std.specs.Prelude.{if◌then◌else◌}
use Rattle.numbers.specs.Values.{Spelt, misspelt, spelt, digits_from}

-- ONE BYTE: a digit, `_`, another
module _ (β v : ℕ) (a : Bool) (i : ℕ) (t : List ℕ) (at : i < length t) where
  from_digit : digit (t ! i) < β → digits_from β v a (drop i t) ≡ digits_from β (v * β + digit (t ! i)) true (drop (i + 1) t)
  from_digit h = rw (drop-cons t i 0 at, lt-ltb (digit (t ! i)) β h, add-one i)

  from_other : β ≤ digit (t ! i)
      → digits_from β v a (drop i t) ≡ (if eqb (t ! i) (code "_") && a then digits_from β v false (drop (i + 1) t) else misspelt)
  from_other h = rw (drop-cons t i 0 at, le-ltb (digit (t ! i)) β h, add-one i)

-- what is read never falls: it is l or more, if it is a number
abbrev pub Above : ℕ → Spelt → Type 0
Above l s = (n : ℕ) → s ≡ spelt n → l ≤ n

no_number : (l : ℕ) → Above l misspelt
no_number l n e = absurd (let z : ◌≡◌ {A = ℕ} 0 1 = cc in let y : ⊥ = omega arith in y)

grows : (β v d : ℕ) → 1 ≤ β → v ≤ v * β + d
grows β v d h = le_trans (rw mul-one at (mul-le-mul_left v h)) (le-add_right (v * β) d)

pub above : (β l : ℕ) → 1 ≤ β → (v : ℕ) (a : Bool) (t : List ℕ) → l ≤ v → Above l (digits_from β v a t)
above β l h v true [] k n e = let z : v ≡ n = cc in omega arith
above β l h v false [] k n e = no_number l n e
above β l h v a (b ∷ t) k n e =
    go (ltb (digit b) β) (eqb b (code "_") && a) (above β l h (v * β + digit b) true t (le_trans k (grows β v (digit b) h)))
    (above β l h v false t k) n e
  where
    go : (x y : Bool) → Above l (digits_from β (v * β + digit b) true t) → Above l (digits_from β v false t)
        → Above l (if x then digits_from β (v * β + digit b) true t else if y then digits_from β v false t else misspelt)
    go true y p q = p
    go false true p q = q
    go false false p q = no_number l

-- A LOOP over the text, at place i, with the number v so far and a digit behind or not: what is left, read on from here, is what all is
pub record Reading (β : ℕ) (t : List ℕ) (v : ℕ) (behind : Bool) (i : ℕ) : Type 0 where
  pub inside : i ≤ length t
  pub same : digits_from β v behind (drop i t) ≡ digits_from β 0 false t

pub reading_start : (β : ℕ) (t : List ℕ) → Reading β t 0 false 0
reading_start β t = record { inside = omega arith; same = refl }

module _ {β : ℕ} {t : List ℕ} {v : ℕ} {a : Bool} {i : ℕ} (r : Reading β t v a i) where
  -- at the end
  pub ends_spelt : length t ≤ i → a ≡ true → spelt v ≡ digits_from β 0 false t
  ends_spelt h k = rw (drop_of_length-le t h, k) at r.same

  pub ends_misspelt : length t ≤ i → a ≡ false → misspelt ≡ digits_from β 0 false t
  ends_misspelt h k = rw (drop_of_length-le t h, k) at r.same

  module _ (at : i < length t) where
    -- a byte that is no digit
    module _ (h : β ≤ digit (get_or t i 0)) where
      pub not_apart : (eqb (get_or t i 0) 95 && a) ≡ false → misspelt ≡ digits_from β 0 false t
      not_apart k = sym (from_other β v a i t at h ∙ rw k) ∙ r.same

      pub apart_on : (eqb (get_or t i 0) 95 && a) ≡ true → Reading β t v false (i + 1)
      apart_on k = record { inside = omega arith; same = sym (from_other β v a i t at h ∙ rw k) ∙ r.same }

    -- a digit
    module _ {d : ℕ} (e : d ≡ digit (get_or t i 0)) (h : d < β) where
      pub digit_on : Reading β t (v * β + d) true (i + 1)
      digit_on = record { inside = omega arith; same = rw e (sym (from_digit β v a i t at (rw e at h)) ∙ r.same) }

      pub too_great : (l : ℕ) → l ≤ v * β + d → Above l (digits_from β 0 false t)
      too_great l k = rw digit_on.same at (above β l (omega arith) (v * β + d) true (drop (i + 1) t) k)

-- a digit that is no digit of this base
pub beyond : (β d b : ℕ) → d ≡ digit b → β ≤ d → β ≤ digit b
beyond β d b e h = rw e at h
