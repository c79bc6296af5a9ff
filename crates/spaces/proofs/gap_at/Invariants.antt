-- `spaces::gap_at` meets its contract. The loop's invariant: what lies between the place and i is white space, walked to its end. The
-- measure is what is left of the length. Assumes nothing.
use Prim.Native.Nat.{◌-◌}
use lib.ListN.{length}
use Rattle.spaces.proofs.Spacing.{Spacing}
use Rattle.spaces.proofs.gap_at.Given as goal

abbrev pub invariant-loop-i : goal.invariant-loop-i
invariant-loop-i l = Spacing l.text l.at l.i

abbrev pub decreases-loop-i : goal.decreases-loop-i
decreases-loop-i l = length l.text - l.i
