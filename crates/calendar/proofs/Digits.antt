-- Two decimal digits as the code reads them, and four by twos. Assumes nothing.
use mathlib.Core.Path.{◌≡◌, refl, sym, ap, ◌∙◌}
use mathlib.Core.Bool.{Bool, true, false, ◌&&◌, ◌||◌, and-false, false≢true}
use mathlib.Core.List.{[], ◌∷◌}
use Prim.Native.Nat.{ℕ, suc, ◌+◌, ◌-◌, ◌*◌, ◌≤◌, ◌<◌}
use native.Mathlib.Omega.{arith}
use borrow.Author.Tests.{lt-ltb, le-ltb, ltb-true, ltb-false}
use lib.Dec.{eqb, ltb}
use mir.Syntax.{w32}
use mir.Val.{Fits}
use Rattle.meaning.specs.Bytes.{within, digit, number, all_digits}
use Rattle.std.specs.Prelude.{if◌then◌else◌, Option, Some, None}
use Rattle.laws.proofs.basics.Tests.{and_left, and_right, within_yes, within_bounds, within_below, within_above}
use Rattle.calendar.specs.Pairs.{pair_of}

-- ONE DIGIT of base ten
abbrev pub ten : ℕ → Bool
ten b = within 48 57 b

digit_ten : (b : ℕ) → ltb (digit b) 10 ≡ ten b
unfolding digit
digit_ten b = go (within 48 57 b) (within 65 70 b) (within 97 102 b) refl refl refl
  where
    go : (x y z : Bool) → within 48 57 b ≡ x → within 65 70 b ≡ y → within 97 102 b ≡ z
        → ltb (if x then b - 48 else if y then b - 55 else if z then b - 87 else 16) 10 ≡ x
    go true y z e f g = lt-ltb (b - 48) 10 (omega (arith, within_bounds 48 57 b e))
    go false true z e f g = le-ltb (b - 55) 10 (omega (arith, within_bounds 65 70 b f))
    go false false true e f g = le-ltb (b - 87) 10 (omega (arith, within_bounds 97 102 b g))
    go false false false e f g = refl

digit_value : (b : ℕ) → ten b ≡ true → digit b ≡ b - 48
unfolding digit
digit_value b e = rw e

-- TWO, AND FOUR
abbrev pub two : ℕ → ℕ → Bool
two a b = ten a && ten b

pub all_two : (a b : ℕ) → all_digits 10 (a ∷ b ∷ []) ≡ two a b
unfolding all_digits
all_two a b = rw (digit_ten a, digit_ten b) (go (ten a) (ten b))
  where
    go : (x y : Bool) → eqb (if x then suc (if y then 1 else 0) else 0) 2 ≡ (x && y)
    go true true = refl
    go true false = refl
    go false y = refl

pub all_four : (a b c d : ℕ) → all_digits 10 (a ∷ b ∷ c ∷ d ∷ []) ≡ (two a b && two c d)
unfolding all_digits
all_four a b c d = rw (digit_ten a, digit_ten b, digit_ten c, digit_ten d) (go (ten a) (ten b) (ten c) (ten d))
  where
    go : (x y z w : Bool) → eqb (if x then suc (if y then suc (if z then suc (if w then 1 else 0) else 0) else 0) else 0) 4 ≡ (x && y && (z && w))
    go true true true true = refl
    go true true true false = refl
    go true true false w = refl
    go true false z w = refl
    go false y z w = refl

-- as the code tests them
outside : (b : ℕ) → (ltb b 48 || ltb 57 b) ≡ true → ten b ≡ false
outside b e = go (ltb b 48) (ltb 57 b) refl refl e
  where
    go : (x y : Bool) → ltb b 48 ≡ x → ltb 57 b ≡ y → (x || y) ≡ true → ten b ≡ false
    go true y p q h = within_below 48 57 b (ltb-true b 48 p)
    go false true p q h = within_above 48 57 b (ltb-true 57 b q)
    go false false p q h = absurd (false≢true h)

inside : (b : ℕ) → (ltb b 48 || ltb 57 b) ≡ false → (48 ≤ b) × (b ≤ 57)
inside b e = go (ltb b 48) (ltb 57 b) refl refl e
  where
    go : (x y : Bool) → ltb b 48 ≡ x → ltb 57 b ≡ y → (x || y) ≡ false → (48 ≤ b) × (b ≤ 57)
    go true y p q h = absurd (false≢true (sym h))
    go false true p q h = absurd (false≢true (sym h))
    go false false p q h = (ltb-false b 48 p, ltb-false 57 b q)

module _ (a b : ℕ) where
  pub pair_first : (ltb a 48 || ltb 57 a) ≡ true → None ≡ pair_of a b
  unfolding pair_of
  pair_first e = rw (outside a e)

  pub pair_second : (ltb b 48 || ltb 57 b) ≡ true → None ≡ pair_of a b
  unfolding pair_of
  pair_second e = rw (outside b e, and-false (ten a))

  module _ (i : (ltb a 48 || ltb 57 a) ≡ false) (j : (ltb b 48 || ltb 57 b) ≡ false) where
    pub pair_some : 528 ≤ 10 * a + b
    pair_some = omega (arith, inside a i, inside b j)

    pub pair_is : Some (10 * a + b - 528) ≡ pair_of a b
    unfolding pair_of
    pair_is =
        let e : 10 * a + b - 528 ≡ (a - 48) * 10 + (b - 48) = omega (arith, inside a i, inside b j) in
        rw (within_yes 48 57 a (inside a i).0 (inside a i).1, within_yes 48 57 b (inside b j).0 (inside b j).1) (ap (λ (n : ℕ). Some n) e)

-- what a pair says, and what none does
pub pair_none : (a b : ℕ) (r : Option ℕ) → r ≡ pair_of a b → r ≡ None → two a b ≡ false
unfolding pair_of
pair_none a b r e q = go (two a b) (sym e ∙ q)
  where
    go : (x : Bool) → (if x then Some ((a - 48) * 10 + (b - 48)) else None) ≡ None → x ≡ false
    go true e = cc
    go false e = refl

module _ (a b : ℕ) (r : Option ℕ) (e : r ≡ pair_of a b) (n : ℕ) (q : r ≡ Some n) where
  pub pair_two : two a b ≡ true
  unfolding pair_of
  pair_two = go (two a b) (sym e ∙ q)
    where
      go : (x : Bool) → (if x then Some ((a - 48) * 10 + (b - 48)) else None) ≡ Some n → x ≡ true
      go true e = refl
      go false e = cc

  pair_value : n ≡ (a - 48) * 10 + (b - 48)
  unfolding pair_of
  pair_value = let k : Some ((a - 48) * 10 + (b - 48)) ≡ Some n = rw pair_two at (sym e ∙ q) in cc

  pub pair_number : n ≡ number 10 2 0 (a ∷ b ∷ [])
  pair_number =
      pair_value ∙ rw (digit_value a (and_left (ten a) (ten b) pair_two), digit_value b (and_right (ten a) (ten b) pair_two)) (omega arith)

  pub pair_below : n < 100
  pair_below =
      let f = within_bounds 48 57 a (and_left (ten a) (ten b) pair_two) in
      let g = within_bounds 48 57 b (and_right (ten a) (ten b) pair_two) in
      omega (arith, pair_value)

pub pairs_number : (a b c d : ℕ) (r s : Option ℕ) → r ≡ pair_of a b → s ≡ pair_of c d → (n k : ℕ) → r ≡ Some n → s ≡ Some k
    → 100 * n + k ≡ number 10 4 0 (a ∷ b ∷ c ∷ d ∷ [])
pairs_number a b c d r s e f n k p q = rw (pair_number a b r e n p, pair_number c d s f k q) (omega arith)

-- a hundred times a pair, and one more
pub pair_fits : (a b : ℕ) (r : Option ℕ) → r ≡ pair_of a b → (n : ℕ) → r ≡ Some n → Fits w32 (100 * n)
pair_fits a b r e n q = record { fits = omega (arith, pair_below a b r e n q) }

pub pairs_fit : (a b c d : ℕ) (r s : Option ℕ) → r ≡ pair_of a b → s ≡ pair_of c d → (n k : ℕ) → r ≡ Some n → s ≡ Some k → Fits w32 (100 * n + k)
pairs_fit a b c d r s e f n k p q = record { fits = omega (arith, pair_below a b r e n p, pair_below c d s f k q) }
