-- A signed number in two halves, and its negation, with -2^127 refused. Assumes nothing.
use Rattle.std.specs.Prelude.{ℕ, ◌^◌, ◌&&◌, ◌==◌}
use Rattle.std.specs.Prelude.{if◌then◌else◌}
use Rattle.meaning.specs.Numbers.{Parsed, none, int}
use Rattle.meaning.specs.Halves.{bits_of, negated_low, negated_high}
use Rattle.numbers.specs.declared.radix.Halves.{Halves}
use Rattle.numbers.specs.Values.{halves_by}
use Rattle.std.specs.Prelude.{Option, Some, None}
use Rattle.numbers.specs.Values.{in_halves}

abbrev pub halves_of : Parsed → Option Halves
halves_of none = None
halves_of (int z) = Some (halves_by (bits_of z))

unfoldable pub negated_halves : ℕ → ℕ → Option Halves
negated_halves hi lo = if hi == 2 ^ 63 && lo == 0 then None else Some (in_halves (negated_high hi lo) (negated_low lo))
