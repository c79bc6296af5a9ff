-- [01 Numbers] "two 64-bit halves whose negation wraps": a signed number of 128 bits in two halves, and its text. Assumes nothing.
use Rattle.std.specs.Prelude.{List, ◌∷◌, ℕ, suc, ◌+◌, ◌*◌, ◌-◌, ◌%◌, ◌^◌, eqb, ltb, ℤ, pos, negsuc}
use Prim.Native.Char.{code}
use Rattle.std.specs.Prelude.{if◌then◌else◌}
use Rattle.meaning.specs.Numbers.{digits_of}

-- the 128 bits that the halves are
abbrev pub joined_halves : ℕ → ℕ → ℕ
joined_halves hi lo = hi * 2 ^ 64 + lo

-- two's complement: the 128 bits of a number, and the text of the number that 128 bits stand for
abbrev pub bits_of : ℤ → ℕ
bits_of (pos n) = n
bits_of (negsuc n) = 2 ^ 128 - suc n

unfoldable pub text_of : ℕ → List ℕ
text_of n = if ltb n (2 ^ 127) then digits_of n else code "-" ∷ digits_of (2 ^ 128 - n)

-- negation, half by half: the low half wraps, and unless it is zero it borrows from the high half, which wraps
unfoldable pub negated_low : ℕ → ℕ
negated_low lo = (2 ^ 64 - lo) % 2 ^ 64

unfoldable pub negated_high : ℕ → ℕ → ℕ
negated_high hi lo = (2 ^ 64 + 2 ^ 64 - hi - (if eqb lo 0 then 0 else 1)) % 2 ^ 64
