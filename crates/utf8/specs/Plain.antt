-- Bytes of plain ASCII. Assumes nothing.
use Rattle.std.specs.Prelude.{ℕ, Bool, not, ◌&&◌, ◌==◌}
use Rattle.meaning.specs.Bytes.{within}

-- ASCII, not NUL, and neither of two
unfoldable pub plain_of : ℕ → ℕ → ℕ → Bool
plain_of first second b = within 1 127 b && not (b == first) && not (b == second)
