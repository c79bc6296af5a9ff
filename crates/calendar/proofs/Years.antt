-- The days of all years up to one, without a loop: 365 a year, and a leap day for every fourth, but not for every hundredth unless it is a four hundredth.
-- Assumes nothing.
use mathlib.Core.Logic.{◌⊎◌, inl, inr}
use mathlib.Core.Path.{◌≡◌, refl, sym}
use mathlib.Core.Bool.{Bool, true, false, ◌&&◌, ◌||◌, not, or-true}
use Prim.Native.Nat.{ℕ, zero, suc, ◌+◌, ◌-◌, ◌*◌, ◌/◌, ◌%◌, ◌≤◌, ◌<◌}
use native.Mathlib.Nat.{pos_of_ne-zero, div-add-mod', mod-lt, add-mul, add-zero}
use native.Mathlib.Omega.{arith}
use borrow.Author.Tests.{eqb-true, eqb-false, eq-eqb, ne_eqb, leb-true, leb-false}
use lib.Arith.{digits_div, digits_mod}
use lib.Dec.{eqb, leb}
use Rattle.std.specs.Prelude.{if◌then◌else◌}
use Rattle.meaning.specs.Dates.{is_leap, year_length, before}

-- from a number to the next one, a quotient grows exactly where the divisor divides
quotient_suc : (k y : ℕ) → 0 < k → suc y / k ≡ y / k + (if eqb (suc y % k) 0 then 1 else 0)
quotient_suc k y p = go (leb k (suc (y % k))) refl
  where
    split : y / k * k + y % k ≡ y
    split = div-add-mod' y k

    go : (x : Bool) → leb k (suc (y % k)) ≡ x → suc y / k ≡ y / k + (if eqb (suc y % k) 0 then 1 else 0)
    go true e =
        let z : suc y ≡ (y / k + 1) * k + 0 = omega (arith, split, add-mul (y / k) 1 k, mod-lt y p, leb-true k (suc (y % k)) e) in
        rw (z, digits_div (y / k + 1) {m = k} {r = 0} p, digits_mod (y / k + 1) {m = k} {r = 0} p)
    go false e =
        let l = leb-false k (suc (y % k)) e in
        let z : suc y ≡ y / k * k + suc (y % k) = omega (arith, split) in
        rw (
          z,
          digits_div (y / k) {m = k} {r = suc (y % k)} l,
          digits_mod (y / k) {m = k} {r = suc (y % k)} l,
          ne_eqb (suc (y % k)) 0 (λ n. let o : ⊥ = omega arith in o),
        )
        (sym (add-zero (y / k)))

-- nothing is taken off: the hundredths stand on the other side
pub years_closed : (y : ℕ) → before year_length y + y / 100 ≡ 365 * y + y / 4 + y / 400
unfolding year_length is_leap
years_closed zero = refl
years_closed (suc y) =
    rw (quotient_suc 4 y (omega arith), quotient_suc 100 y (omega arith), quotient_suc 400 y (omega arith))
    (go (eqb (suc y % 4) 0) (eqb (suc y % 100) 0) (eqb (suc y % 400) 0) refl refl refl (years_closed y))
  where
    go : (a b c : Bool) → eqb (suc y % 4) 0 ≡ a → eqb (suc y % 100) 0 ≡ b → eqb (suc y % 400) 0 ≡ c
        → before year_length y + y / 100 ≡ 365 * y + y / 4 + y / 400
        → before year_length y + (if a && (not b || c) then 366 else 365) + (y / 100 + (if b then 1 else 0))
        ≡ 365 * suc y + (y / 4 + (if a then 1 else 0)) + (y / 400 + (if c then 1 else 0))
    go true true true p q r ih = omega arith
    go true true false p q r ih = omega arith
    go true false true p q r ih = absurd (omega (arith, pos_of_ne-zero (eqb-false (suc y % 100) 0 q), eqb-true (suc y % 400) 0 r))
    go true false false p q r ih = omega arith
    go false true c p q r ih = absurd (omega (arith, pos_of_ne-zero (eqb-false (suc y % 4) 0 p), eqb-true (suc y % 100) 0 q))
    go false false true p q r ih = absurd (omega (arith, pos_of_ne-zero (eqb-false (suc y % 4) 0 p), eqb-true (suc y % 400) 0 r))
    go false false false p q r ih = omega arith

pub years_below : (y : ℕ) → before year_length y ≤ 366 * y
years_below y = omega (arith, years_closed y)

-- as `days_of_years` counts them
pub years_counted : (y : ℕ) → y ≤ 9999
    → (365 * y + y / 4 - y / 100 + y / 100 / 4 ≡ before year_length y) × (365 * y + y / 4 - y / 100 + y / 100 / 4 ≤ 366 * 9999)
years_counted y h =
    let e : 365 * y + y / 4 - y / 100 + y / 100 / 4 ≡ before year_length y = omega (arith, years_closed y) in
    (e, omega (arith, e, years_below y, h))

-- a year has 365 days, and one more if it is a leap year
pub year_least : (y : ℕ) → 365 ≤ year_length y
unfolding year_length
year_least y = go (is_leap y)
  where
    go : (x : Bool) → 365 ≤ (if x then 366 else 365)
    go true = omega arith
    go false = omega arith

pub leap_longer : (y : ℕ) → is_leap y ≡ true → year_length y ≡ 366
unfolding year_length
leap_longer y e = rw e

-- a leap year by its remainders
pub leap_is : (y : ℕ) → y % 4 ≡ 0 → (0 < y % 100) ⊎ (y % 400 ≡ 0) → is_leap y ≡ true
unfolding is_leap
leap_is y e (inl h) = rw (eq-eqb (y % 4) 0 e, ne_eqb (y % 100) 0 (λ z. let n : ⊥ = omega arith in n))
leap_is y e (inr h) = rw (eq-eqb (y % 4) 0 e, eq-eqb (y % 400) 0 h) (or-true (not (eqb (y % 100) 0)))
