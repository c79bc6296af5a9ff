-- [02 T-01] A number printed in w digits of base β reads back, whatever follows, once over the base and the width. Assumes nothing.
use mathlib.Core.Path.{◌≡◌, refl, ap}
use mathlib.Core.Bool.{Bool, true, false}
use mathlib.Core.List.{List, ◌++◌}
use Prim.Native.Nat.{ℕ, zero, suc, ◌+◌, ◌-◌, ◌/◌, ◌%◌, ◌^◌, ◌≤◌, ◌<◌}
use Prim.Native.Char.{code}
use native.Mathlib.Nat.{lt_of_lt_of_le, mod-lt, pow-zero, pow-suc, div-one, div-add-mod', div-eq_of_lt, div-div-eq-div-mul}
use native.Mathlib.Omega.{arith}
use borrow.Author.Tests.{ltb-true, ltb-false, lt-ltb}
use lib.Dec.{ltb}
use lib.ListN.{length}
use Rattle.meaning.specs.Bytes.{within, digit, digits, number}
use Rattle.std.specs.Prelude.{if◌then◌else◌}
use Rattle.meaning.specs.Forms.{figure, figures}
use Rattle.laws.proofs.basics.Tests.{within_yes, within_above}
use Rattle.laws.proofs.writing.FormUnits.{Every}

-- ONE DIGIT
pub figure_digit : (d : ℕ) → d < 16 → digit (figure d) ≡ d
unfolding figure digit
figure_digit d h = go (ltb d 10) refl
  where
    go : (x : Bool) → ltb d 10 ≡ x → digit (if x then code "0" + d else code "A" + (d - 10)) ≡ d
    go true e = let l = ltb-true d 10 e in rw (within_yes 48 57 (48 + d) (omega arith) (omega arith)) (omega arith)
    go false e =
        let l = ltb-false d 10 e in
        rw (within_above 48 57 (65 + (d - 10)) (omega arith), within_yes 65 70 (65 + (d - 10)) (omega arith) (omega arith)) (omega arith)

figure_byte : (d : ℕ) → d < 16 → within 0x30 0x46 (figure d) ≡ true
unfolding figure
figure_byte d h = go (ltb d 10) refl
  where
    go : (x : Bool) → ltb d 10 ≡ x → within 0x30 0x46 (if x then code "0" + d else code "A" + (d - 10)) ≡ true
    go true e = let l = ltb-true d 10 e in within_yes 0x30 0x46 (48 + d) (omega arith) (omega arith)
    go false e = let l = ltb-false d 10 e in within_yes 0x30 0x46 (65 + (d - 10)) (omega arith) (omega arith)

-- W DIGITS
pub figures_length : (β w c : ℕ) → length (figures β w c) ≡ w
figures_length β zero c = refl
figures_length β (suc w) c = ap suc (figures_length β w c)

below : (β n : ℕ) → 0 < β → β ≤ 16 → n % β < 16
below β n some low = lt_of_lt_of_le (mod-lt n some) low

-- each is a visible ASCII byte, no mark and no backslash
pub figures_bytes : (β w c : ℕ) → 0 < β → β ≤ 16 → Every (within 0x30 0x46) (figures β w c)
figures_bytes β zero c some low = tt
figures_bytes β (suc w) c some low = (figure_byte (c / β ^ w % β) (below β (c / β ^ w) some low), figures_bytes β w c some low)

pub figures_digits : (β w c : ℕ) (t : List ℕ) → 0 < β → β ≤ 16 → digits β w (figures β w c ++ t) ≡ w
figures_digits β zero c t some low = refl
figures_digits β (suc w) c t some low =
    rw (figure_digit (c / β ^ w % β) (below β (c / β ^ w) some low), lt-ltb (c / β ^ w % β) β (mod-lt (c / β ^ w) some))
    (ap suc (figures_digits β w c t some low))

-- behind the number's higher digits
figures_behind : (β w c : ℕ) (t : List ℕ) → 0 < β → β ≤ 16 → number β w (c / β ^ w) (figures β w c ++ t) ≡ c
figures_behind β zero c t some low = rw (pow-zero β) (div-one c)
figures_behind β (suc w) c t some low =
    rw (
      pow-suc β w,
      ← div-div-eq-div-mul c (β ^ w) β,
      figure_digit (c / β ^ w % β) (below β (c / β ^ w) some low),
      div-add-mod' (c / β ^ w) β,
    )
    (figures_behind β w c t some low)

pub figures_number : (β w c : ℕ) (t : List ℕ) → 0 < β → β ≤ 16 → c < β ^ w → number β w 0 (figures β w c ++ t) ≡ c
figures_number β w c t some low h = rw (div-eq_of_lt h) at (figures_behind β w c t some low)
