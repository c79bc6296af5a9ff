-- `bits::later::measure_later` meets its contract. The loop's invariant: the segments before the cursor have n digits. The measure is what is left behind
-- the cursor. Assumes nothing.
use Prim.Native.Nat.{◌-◌}
use lib.ListN.{length}
use Rattle.bits.proofs.Turns.{LaterAt}
use Rattle.bits.proofs.later.measure_later.Given as goal

abbrev pub invariant-loop-start : goal.invariant-loop-start
invariant-loop-start l = LaterAt l.settings l.base l.text l.cursor.at l.n

abbrev pub decreases-loop-start : goal.decreases-loop-start
decreases-loop-start l = length l.text - l.cursor.at
