-- `writer::parts::count_later` meets its contract. The loop's invariant, `Counted`: what is counted, with the parts behind the place. The measure is what is
-- left of the value. Assumes nothing.
use Prim.Native.Nat.{◌-◌}
use lib.ListN.{length}
use Rattle.writer.proofs.Parting.{Counted}
use Rattle.writer.proofs.parts.count_later.Given as goal

abbrev pub invariant-loop-end : goal.invariant-loop-end
invariant-loop-end l = Counted l.limit l.value l.count l.end

abbrev pub decreases-loop-end : goal.decreases-loop-end
decreases-loop-end l = length l.value - l.end
