-- What the reading of two digits answers. Assumes nothing.
use Rattle.std.specs.Prelude.{◌&&◌, ℕ, ◌+◌, ◌-◌, ◌*◌, Option, Some, None}
use Rattle.meaning.specs.Bytes.{within}
use Rattle.std.specs.Prelude.{if◌then◌else◌}

-- the number of two decimal digits; none if a byte is none
unfoldable pub pair_of : ℕ → ℕ → Option ℕ
pair_of a b = if within 48 57 a && within 48 57 b then Some ((a - 48) * 10 + (b - 48)) else None
