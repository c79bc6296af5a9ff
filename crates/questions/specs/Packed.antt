-- [02 T-07] A packed reading of a part of the source, told of the literal. Assumes nothing.
use Rattle.std.specs.Prelude.{ℕ, ◌*◌, ◌<◌, ◌^◌, eqb}
use Rattle.meaning.specs.declared.BitStringRadix.{BitStringRadix}
use Rattle.meaning.specs.declared.BitStringRadix.TheVariants.{Binary, Hex}
use Rattle.meaning.specs.declared.Span.{Span}
use Rattle.meaning.specs.declared.Refusal.TheVariants as Refusal'
use Rattle.std.specs.Prelude.{if◌then◌else◌}
use Rattle.bits.specs.declared.packing.Packed.{Packed}
use Rattle.bits.specs.Pens.{digit_count}
use Rattle.std.specs.Prelude.{Result, Ok, Err}
use Rattle.meaning.specs.declared.Refusal.{Refusal}
use Rattle.meaning.specs.declared.PackedBits.{PackedBits}
use Rattle.meaning.specs.Answers.{packed_at}
use Rattle.bits.specs.Pens.{packed_in}
use Rattle.bits.specs.declared.packing.PackingError.{PackingError}
use Rattle.bits.specs.declared.packing.PackingError.TheVariants as PackingError'

abbrev pub radix_by : ℕ → BitStringRadix
radix_by β = if eqb β 2 then Binary else Hex

-- the digits of a text in a span of 32 bits
abbrev pub Countable : Result Packed PackingError → Type 0
Countable p = digit_count p < 2 ^ 32

-- k bits a digit
abbrev pub packed_by : Span → ℕ → Result Packed PackingError → Result PackedBits Refusal
packed_by s k (Ok p) = Ok (packed_at p.len (k * p.digits))
packed_by s k (Err PackingError'.Refused) = Err (Refusal'.InvalidBitString s)
packed_by s k (Err (PackingError'.NoRoom n)) = Err (Refusal'.NoRoom n)
