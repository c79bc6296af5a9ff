-- `bits::later::write_later` meets its contract. The loop's invariant: the buffer begins with the bodies before the cursor, of n bytes, and goes on as it
-- was lent. The measure is what is left behind the cursor. Assumes nothing.
use Prim.Native.Nat.{◌-◌}
use lib.ListN.{length}
use Rattle.laws.proofs.walking.Passes.{Writing}
use Rattle.bits.specs.Bodies.{body_step}
use Rattle.bits.proofs.later.write_later.Given as goal

abbrev pub invariant-loop-start : goal.invariant-loop-start
invariant-loop-start l = Writing (body_step l.settings) l.text l.initial.out l.out l.cursor.at l.n

abbrev pub decreases-loop-start : goal.decreases-loop-start
decreases-loop-start l = length l.text - l.cursor.at
