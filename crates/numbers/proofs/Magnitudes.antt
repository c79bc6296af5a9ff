-- The number that digits of base ten make as one of 64 bits, below the limit of `read_digits`. Assumes nothing.
use mathlib.Core.Path.{◌≡◌, refl, ap}
use mathlib.Core.Bool.{Bool, true, false}
use mathlib.Core.List.{List}
use Prim.Native.Nat.{ℕ, ◌+◌, ◌*◌, ◌≤◌, ◌<◌}
use native.Mathlib.Omega.{arith}
use borrow.Author.Tests.{lt-ltb, le-ltb}
use lib.ListN.{length, get_or}
use Rattle.meaning.specs.Bytes.{digit}
use Rattle.numbers.specs.Values.{Spelt, misspelt, spelt, digits_from, magnitude_of}
use Rattle.numbers.proofs.Spelled.{Above, Reading, too_great, digit_on, ends_spelt}
use Rattle.std.specs.Prelude.{Option, Some, None}

-- what `read_digits` makes of digits
abbrev pub tallied : Spelt → Option ℕ
tallied s = magnitude_of 9223372036854775810 s

pub refused_as : {s : Spelt} → misspelt ≡ s → None ≡ tallied s
refused_as e = ap tallied e

refused_above : (s : Spelt) → Above 9223372036854775810 s → None ≡ tallied s
refused_above misspelt h = refl
refused_above (spelt n) h = rw (le-ltb n 9223372036854775810 (h n refl))

-- the invariant of `read_digits`
pub record Tallying (t : List ℕ) (v : ℕ) (behind : Bool) (i : ℕ) : Type 0 where
  pub reading : Reading 10 t v behind i
  pub small : v < 9223372036854775810

module _ {t : List ℕ} {v : ℕ} {a : Bool} {i : ℕ} (r : Tallying t v a i) where
  pub tally_end : length t ≤ i → a ≡ true → Some v ≡ tallied (digits_from 10 0 false t)
  tally_end h k = rw (← (ends_spelt r.reading h k), lt-ltb v 9223372036854775810 r.small)

  module _ {d : ℕ} (at : i < length t) (e : d ≡ digit (get_or t i 0)) (h : d < 10) where
    pub tally_over : 922337203685477581 ≤ v → None ≡ tallied (digits_from 10 0 false t)
    tally_over k = refused_above (digits_from 10 0 false t) (too_great r.reading at e h 9223372036854775810 (omega arith))

    pub tally_on : v < 922337203685477581 → Tallying t (v * 10 + d) true (i + 1)
    tally_on k = record { reading = digit_on r.reading at e h; small = omega arith }
