-- The version of the exports, 0.2.0, as one number: major * 10000 + minor * 100 + patch. Assumes nothing.
use Rattle.std.specs.Prelude.{ℕ, ◌+◌, ◌*◌}

abbrev pub version : ℕ
version = 0 * 10000 + 2 * 100 + 0
