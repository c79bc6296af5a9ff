-- `strings::storing::read_body` meets its contract. The loop's invariant, `Reading`: how far the body is read, from what was stored before it. The measure is what is
-- left of the text. Assumes nothing.
use Prim.Native.Nat.{◌-◌}
use lib.ListN.{length}
use Rattle.strings.specs.Storing.{Reading}
use Rattle.strings.proofs.storing.read_body.Given as goal

abbrev pub invariant-loop-body : goal.invariant-loop-body
invariant-loop-body l = Reading l.family l.text (record { total = l.initial.body.total; n = l.initial.body.n }) l.initial.chunk l.initial.out l.body l.chunk l.out

abbrev pub decreases-loop-body : goal.decreases-loop-body
decreases-loop-body l = length l.text - l.body.at
