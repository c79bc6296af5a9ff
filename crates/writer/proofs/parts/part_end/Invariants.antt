-- `writer::parts::part_end` meets its contract. The loop's invariant, `Ending`: the part ends at the place or before it. The measure is the place.
-- Assumes nothing.
use Rattle.writer.proofs.Parting.{Ending}
use Rattle.writer.proofs.parts.part_end.Given as goal

abbrev pub invariant-loop-end : goal.invariant-loop-end
invariant-loop-end l = Ending l.limit l.from l.value l.end

abbrev pub decreases-loop-end : goal.decreases-loop-end
decreases-loop-end l = l.end
