-- Bytes at a buffer's start. Assumes nothing.
use Rattle.std.specs.Prelude.{◌≡◌, ℕ, ◌≤◌, List, length, nat_le}
use Rattle.std.specs.Prelude.{if◌then◌else◌}
use Rattle.meaning.specs.Answers.{filled}

-- bytes are put at a buffer's start where there is room for them, and counted
pub record Puts (v out : List ℕ) (r : ℕ) (after : List ℕ) : Type 0 where
  pub answer : r ≡ (if nat_le (length v) (length out) then length v else 0)
  pub buffer : after ≡ filled v out

-- the lesser of a and b
pub record Least (a b r : ℕ) : Type 0 where
  pub most : r ≤ b
  pub first : a ≤ b → r ≡ a
