-- How long a number's decimal text can be: with a radix prefix it has forty bytes at the most, and else, where it is written, it is shorter than the text by a _
-- at least. Assumes nothing.
use mathlib.Core.Path.{◌≡◌, refl}
use mathlib.Core.Bool.{Bool, true, false, ◌||◌, not, false≢true}
use mathlib.Core.List.{List, [], ◌∷◌}
use Prim.Native.Nat.{ℕ, suc, ◌+◌, ◌≤◌, ◌<◌}
use Prim.Native.Char.{code}
use native.Mathlib.Omega.{arith}
use lib.Dec.{eqb, ltb}
use lib.ListN.{length}
use borrow.Author.Tests.{ltb-true, ltb-false}
use Rattle.meaning.specs.Bytes.{has}
use Rattle.std.specs.Prelude.{if◌then◌else◌}
use Rattle.meaning.specs.Reading.{borrowed, written, refused}
use Rattle.meaning.specs.Numbers.{Parsed, none, int, fits, within_bits, negated_by, parsed, is_minus, strip, separated, base_of, number_body, radix_value}
use Rattle.meaning.specs.Numbers.{printed_by, decimal_of}
use Rattle.laws.proofs.basics.Halves.{printed_length}
use Rattle.laws.proofs.basics.Tests.{eqb_sym}
use Rattle.laws.proofs.room.Told.{Writes}

-- forty bytes, or fewer than k
abbrev pub Forty : ℕ → ℕ → Type 0
Forty k n = 40 < n → n < k

-- so m bytes hold it, where they are forty at least and no fewer than k less one
pub forty_most : (k m n : ℕ) → 40 ≤ m → k ≤ m + 1 → Forty k n → n ≤ m
forty_most k m n f h a = go (ltb 40 n) refl
  where
    go : (x : Bool) → ltb 40 n ≡ x → n ≤ m
    go true e = omega (arith, a (ltb-true 40 n e))
    go false e = omega (arith, ltb-false 40 n e)

strip_short : (t : List ℕ) → length (strip t) ≤ length t
strip_short [] = omega arith
strip_short (b ∷ t) = go (eqb b (code "_")) (strip_short t)
  where
    go : (x : Bool) → length (strip t) ≤ length t → length (if x then strip t else b ∷ strip t) ≤ suc (length t)
    go true ih = omega arith
    go false ih = omega arith

-- a text that has a _ loses it
strip_less : (t : List ℕ) → has (code "_") t ≡ true → length (strip t) < length t
strip_less [] h = absurd (false≢true h)
strip_less (b ∷ t) h = go (eqb b (code "_")) (rw (eqb_sym (code "_") b) at h) (strip_less t) (strip_short t)
  where
    go : (x : Bool) → (x || has (code "_") t) ≡ true → (has (code "_") t ≡ true → length (strip t) < length t) → length (strip t) ≤ length t
        → length (if x then strip t else b ∷ strip t) < suc (length t)
    go true g ih s = omega arith
    go false g ih s = omega (arith, ih g)

pub decimal_writes : (t : List ℕ) → Writes (Forty (length t)) (decimal_of t)
unfolding decimal_of radix_value
decimal_writes t = go (not (separated t)) (eqb (base_of t) 10) (has (code "_") t) refl
  where
    radix : (z : Parsed) → Writes (Forty (length t)) (printed_by (within_bits 127 z))
    radix none = tt
    radix (int z) = by (fits 127 z) refl
      where
        by : (x : Bool) → fits 127 z ≡ x → Writes (Forty (length t)) (printed_by (if x then int z else none))
        by true e = λ h. absurd (omega (arith, printed_length z e))
        by false e = tt

    go : (x y w : Bool) → has (code "_") t ≡ w
        → Writes (Forty (length t)) (if x then refused 0
        else if y then (if w then written (strip t) else borrowed 0 (length t))
        else printed_by (within_bits 127 (negated_by (is_minus t) (parsed 127 (base_of t) (strip (number_body t))))))
    go true y w e = tt
    go false true true e = λ h. strip_less t e
    go false true false e = tt
    go false false w e = radix (negated_by (is_minus t) (parsed 127 (base_of t) (strip (number_body t))))
