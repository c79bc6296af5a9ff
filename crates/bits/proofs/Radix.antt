-- [02 T-07] What the two radices are, and how many bytes so many digits take. Assumes nothing.
use mathlib.Core.Path.{◌≡◌, refl}
use mathlib.Core.Bool.{Bool, true, false, not}
use Prim.Native.Nat.{ℕ, suc, ◌+◌, ◌*◌, ◌/◌, ◌%◌, ◌^◌, ◌<◌}
use native.Mathlib.Nat.{one-mul}
use native.Mathlib.Omega.{arith}
use mir.Val.{bool_byte}
use borrow.Author.Tests.{eqb-true, eqb-false}
use lib.Dec.{eqb}
use Rattle.meaning.specs.declared.BitStringRadix.{BitStringRadix}
use Rattle.meaning.specs.declared.BitStringRadix.TheVariants.{Binary, Hex}
use Rattle.std.specs.Prelude.{if◌then◌else◌}
use Rattle.meaning.specs.Packing.{radix_bits, packed_length}
use Rattle.laws.proofs.packing.Digits.{radix_some}

pub base_binary : (r : BitStringRadix) → r ≡ Binary → 2 ≡ 2 ^ radix_bits r
base_binary r e = rw e

pub base_hex : (r : BitStringRadix) → r ≡ Hex → 16 ≡ 2 ^ radix_bits r
base_hex r e = rw e

-- a digit has some bits, and a byte has whole digits
pub bits_some : (r : BitStringRadix) (k : ℕ) → k ≡ radix_bits r → 0 < k
bits_some r k e = rw e (radix_some r)

pub bits_fit : (r : BitStringRadix) (k : ℕ) → k ≡ radix_bits r → 8 / k < 2 ^ 64
bits_fit Binary k e = rw e (omega arith)
bits_fit Hex k e = rw e (omega arith)

pub radix_whole : (r : BitStringRadix) → (m : ℕ) × (8 ≡ radix_bits r * suc m) × (8 / radix_bits r ≡ suc m)
radix_whole Binary = (7, refl, refl)
radix_whole Hex = (1, refl, refl)

-- LENGTHS
pub packed_fits : (n : ℕ) (x : Bool) → n < 2 ^ 64 → n / 8 + bool_byte x < 2 ^ 64
packed_fits n true h = omega arith
packed_fits n false h = omega arith

pub packed_binary : (r : BitStringRadix) (n : ℕ) → r ≡ Binary → n / 8 + bool_byte (not (eqb (n % 8) 0)) ≡ packed_length (radix_bits r * n)
packed_binary r n e = rw (e, one-mul n) (go (eqb (n % 8) 0))
  where
    go : (x : Bool) → n / 8 + bool_byte (not x) ≡ n / 8 + (if x then 0 else 1)
    go true = refl
    go false = refl

pub packed_hex : (r : BitStringRadix) (n : ℕ) → r ≡ Hex → n / 2 + n % 2 ≡ packed_length (radix_bits r * n)
packed_hex r n e = rw e (go (eqb (4 * n % 8) 0) refl)
  where
    go : (x : Bool) → eqb (4 * n % 8) 0 ≡ x → n / 2 + n % 2 ≡ 4 * n / 8 + (if x then 0 else 1)
    go true h = omega (arith, eqb-true (4 * n % 8) 0 h)
    go false h = omega (arith, eqb-false (4 * n % 8) 0 h)
