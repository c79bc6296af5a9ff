-- A number with its sign, as the machine holds it: within 64 bits, and its negation. Assumes nothing.
use mathlib.Core.Path.{◌≡◌, refl, ap, sym, ◌∙◌}
use mathlib.Core.Bool.{true, false}
use Prim.Native.Nat.{ℕ, zero, suc, ◌-◌, ◌^◌, ◌≤◌, ◌<◌}
use native.Mathlib.Nat.{zero-add}
use native.Mathlib.Numerals.{sub-one}
use native.Mathlib.Omega.{arith}
use borrow.Author.Tests.{lt-ltb, le-ltb}
use lib.IntN.{ℤ, pos, negsuc, neg_ℤ, ◌-ℤ◌, +ℤ_idl}
use lib.Signed.{mag}
use mir.Syntax.{w64}
use mir.Val.{SFits, to_z, of_z}
use mir.Facts.{to_z_pos, to_z-of_z}
use Rattle.meaning.specs.Numbers.{int, fits, signed, within_bits}
use Rattle.numbers.specs.Values.{int64_of}
use Rattle.std.specs.Prelude.{Option, Some, None}

abbrev pub fitted_of : ℤ → Option ℤ
fitted_of z = int64_of (within_bits 63 (int z))

-- `with_sign`: -1 - k, as the machine has it
minus : (k : ℕ) → negsuc 0 -ℤ pos k ≡ negsuc k
minus zero = refl
minus (suc j) = ap (λ (n : ℕ). negsuc (suc n)) (zero-add j)

less : (k : ℕ) → k < 2 ^ 63 → negsuc 0 -ℤ to_z w64 k ≡ negsuc k
less k h = ap (λ (z : ℤ). negsuc 0 -ℤ z) (to_z_pos w64 {n = k} h) ∙ minus k

pub less_fits : (k : ℕ) → k < 2 ^ 63 → SFits w64 (negsuc 0 -ℤ to_z w64 k)
less_fits k h = rw (less k h) (record { sfits = h })

pub less_back : (k : ℕ) → k < 2 ^ 63 → to_z w64 (of_z w64 (negsuc 0 -ℤ to_z w64 k)) ≡ negsuc k
less_back k h = to_z-of_z {w = w64} (less_fits k h) ∙ less k h

pub minus_value : (m : ℕ) → (m ≡ 0 → ⊥) → m ≤ 2 ^ 63 → Some (negsuc (m - 1)) ≡ fitted_of (signed true m)
minus_value zero ne h = absurd (ne refl)
minus_value (suc k) ne h = rw (sub-one (suc k), lt-ltb k (2 ^ 63) h)

pub minus_great : (m : ℕ) → 2 ^ 63 < m → None ≡ fitted_of (signed true m)
minus_great zero h = absurd (let z : ⊥ = omega arith in z)
minus_great (suc k) h = rw (le-ltb k (2 ^ 63) (omega arith))

pub plus_value : (m : ℕ) → m < 2 ^ 63 → Some (to_z w64 m) ≡ fitted_of (signed false m)
plus_value m h = rw (lt-ltb m (2 ^ 63) h)

pub plus_great : (m : ℕ) → 2 ^ 63 ≤ m → None ≡ fitted_of (signed false m)
plus_great m h = rw (le-ltb m (2 ^ 63) h)

-- `negated`
least : (z : ℤ) → SFits w64 z → of_z w64 z ≡ 2 ^ 63 → z ≡ negsuc (2 ^ 63 - 1)
least z f e = sym (to_z-of_z {w = w64} f) ∙ ap (to_z w64) e

pub least_refused : (z : ℤ) → SFits w64 z → of_z w64 z ≡ 2 ^ 63 → None ≡ fitted_of (neg_ℤ z)
least_refused z f e = rw (least z f e)

negated_size : (z : ℤ) → SFits w64 z → (of_z w64 z ≡ 2 ^ 63 → ⊥) → mag (neg_ℤ z) < 2 ^ 63
negated_size (pos zero) f n = omega arith
negated_size (pos (suc k)) f n = omega (arith, f.sfits)
negated_size (negsuc k) f n = omega (arith, f.sfits)

-- a size below 2^63 fits
pub fits_size : (z : ℤ) → mag z < 2 ^ 63 → fits 63 z ≡ true
fits_size (pos n) h = lt-ltb n (2 ^ 63) h
fits_size (negsuc n) h = lt-ltb n (2 ^ 63) h

module _ (z : ℤ) (f : SFits w64 z) (n : of_z w64 z ≡ 2 ^ 63 → ⊥) where
  sub_is : pos 0 -ℤ to_z w64 (of_z w64 z) ≡ neg_ℤ z
  sub_is = ap (λ (y : ℤ). pos 0 -ℤ y) (to_z-of_z {w = w64} f) ∙ +ℤ_idl (neg_ℤ z)

  pub negated_fits : SFits w64 (pos 0 -ℤ to_z w64 (of_z w64 z))
  negated_fits = rw sub_is (record { sfits = negated_size z f n })

  pub negated_value : Some (to_z w64 (of_z w64 (pos 0 -ℤ to_z w64 (of_z w64 z)))) ≡ fitted_of (neg_ℤ z)
  negated_value = rw (to_z-of_z {w = w64} negated_fits, sub_is, fits_size (neg_ℤ z) (negated_size z f n))
