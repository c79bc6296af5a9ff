-- `strings::quick::drive` meets its contract. The loop's invariant, `Going`: what the segments so far mean, and where it is stored. The measure is what is left of
-- the text. Assumes nothing.
use Prim.Native.Nat.{◌-◌}
use lib.ListN.{length}
use Rattle.strings.proofs.SegmentTurns.{Going}
use Rattle.strings.proofs.quick.drive.Given as goal

abbrev pub invariant-loop-at : goal.invariant-loop-at
invariant-loop-at l = Going l.settings l.text l.initial.out l.at l.store l.chunk l.out

abbrev pub decreases-loop-at : goal.decreases-loop-at
decreases-loop-at l = length l.text - l.at
