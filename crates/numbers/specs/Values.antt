-- What the functions between a text and its number answer. Assumes nothing.
use Rattle.std.specs.Prelude.{Bool, true, false, ◌&&◌, ◌||◌, List, [], ◌∷◌, ℕ, ◌+◌, ◌*◌, ◌/◌, ◌%◌, ◌^◌, eqb, ltb, length}
use Prim.Native.Char.{code}
use Rattle.meaning.specs.Bytes.{digit, number, all_digits}
use Rattle.std.specs.Prelude.{if◌then◌else◌}
use Rattle.meaning.specs.Numbers.{Parsed, none, int, placed, strip, parsed}
use Rattle.numbers.specs.declared.radix.Halves.{Halves}
use Rattle.std.specs.Prelude.{Option, Some, None, ℤ}

abbrev pub int64_of : Parsed → Option ℤ
int64_of none = None
int64_of (int z) = Some z

-- `parsed` of a text whose separators are placed
unfoldable pub parsed_apart : ℕ → ℕ → List ℕ → Parsed
parsed_apart k β t = if placed β 0 t then parsed k β (strip t) else none

-- DIGITS WITH SEPARATORS: a number, or none
pub data Spelt : Type 0 where
  misspelt : Spelt
  spelt : ℕ → Spelt

-- the digits of base β that go on from v, with `_` between two of them; `behind` says that a digit stands before
abbrev pub digits_from : ℕ → ℕ → Bool → List ℕ → Spelt
digits_from β v behind [] = if behind then spelt v else misspelt
digits_from β v behind (b ∷ t) =
    if ltb (digit b) β then digits_from β (v * β + digit b) true t
    else if eqb b (code "_") && behind then digits_from β v false t else misspelt

-- a number below l
abbrev pub magnitude_of : ℕ → Spelt → Option ℕ
magnitude_of l misspelt = None
magnitude_of l (spelt n) = if ltb n l then Some n else None

-- 1 to 19 digits of base ten and nothing else
unfoldable pub short_of : List ℕ → Option ℕ
short_of t =
    if eqb (length t) 0 || ltb 19 (length t) then None
    else if all_digits 10 t then Some (number 10 (length t) 0 t) else None

-- A RADIX: the base, with 2 for any other
unfoldable pub radix_by : ℕ → ℕ
radix_by β = if eqb β 16 then 16 else if eqb β 8 then 8 else 2

-- IN TWO HALVES: 128 bits, and a number below 2^128
abbrev pub in_halves : ℕ → ℕ → Halves
in_halves hi lo = record { hi = hi; lo = lo }

abbrev pub halves_by : ℕ → Halves
halves_by n = in_halves (n / 2 ^ 64) (n % 2 ^ 64)

abbrev pub wide_of : Spelt → Option Halves
wide_of misspelt = None
wide_of (spelt n) = if ltb n (2 ^ 128) then Some (halves_by n) else None
