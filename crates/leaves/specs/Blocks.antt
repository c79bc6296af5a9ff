-- Bytes that are none of three, and runs of bytes that pass a test. Assumes nothing.
use Rattle.std.specs.Prelude.{ℕ, zero, suc, Bool, true, false, not, ◌&&◌, List, [], ◌∷◌, ◌==◌}
use Rattle.leaves.specs.declared.blocks.Stops.{Stops}

-- none of the three
unfoldable pub free_of : Stops → ℕ → Bool
free_of k b = not (b == k.first) && not (b == k.second) && not (b == k.third)

-- the first n bytes are there, and each passes a test
abbrev pub passes : (ℕ → Bool) → ℕ → List ℕ → Bool
passes p zero t = true
passes p (suc n) [] = false
passes p (suc n) (b ∷ t) = p b && passes p n t
