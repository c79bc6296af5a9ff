-- A digit that was read without a test for the letters past f. Assumes nothing.
use Rattle.std.specs.Prelude.{ℕ, nat_lt}
use Rattle.std.specs.Prelude.{if◌then◌else◌}

-- 16 for every number that is no digit
abbrev pub capped : ℕ → ℕ
capped d = if nat_lt d 16 then d else 16
