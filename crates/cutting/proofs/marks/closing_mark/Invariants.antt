-- `cutting::marks::closing_mark` meets its contract. The loop's invariant: the search has walked the first `at` bytes (`SoFar`). The measure is what is left of
-- the body. Assumes nothing.
use Prim.Native.Nat.{◌-◌}
use lib.ListN.{length}
use Rattle.meaning.specs.Steps.{closing_step}
use Rattle.laws.proofs.walking.Courses.{SoFar}
use Rattle.cutting.proofs.marks.closing_mark.Given as goal

abbrev pub invariant-loop-at : goal.invariant-loop-at
invariant-loop-at l = SoFar (closing_step l.hides l.quote) l.body l.at

abbrev pub decreases-loop-at : goal.decreases-loop-at
decreases-loop-at l = length l.body - l.at
