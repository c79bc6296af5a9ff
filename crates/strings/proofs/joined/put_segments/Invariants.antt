-- `strings::joined::put_segments` meets its contract. The loop's invariant, `JoinsAt`: the segments before the cursor mean n bytes, which are put where there is
-- room. The measure is what is left behind the cursor. Assumes nothing.
use Prim.Native.Nat.{◌-◌}
use lib.ListN.{length}
use Rattle.strings.proofs.Joinings.{JoinsAt}
use Rattle.strings.proofs.joined.put_segments.Given as goal

abbrev pub invariant-loop-start : goal.invariant-loop-start
invariant-loop-start l = JoinsAt l.settings l.text l.initial.out l.out l.cursor.at l.n

abbrev pub decreases-loop-start : goal.decreases-loop-start
decreases-loop-start l = length l.text - l.cursor.at
