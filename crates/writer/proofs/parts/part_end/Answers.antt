-- `writer::parts::part_end` meets its contract. The loop's invariant, `Ending`: the part ends at the place or before it. The measure is the place.
-- Assumes nothing.
use native.Mathlib.Omega.{arith}
use Rattle.writer.proofs.Parting.{part_last, ending_start, ending_some, ending_turn, ending_end}
use Rattle.writer.proofs.parts.part_end.Goals as goal

pub returns-then-value-from : goal.returns-then-value-from
returns-then-value-from c = search part_last

pub loop-end-init : goal.loop-end-init
loop-end-init c = search ending_start

pub overflow_sub-end : goal.overflow_sub-end
overflow_sub-end c = search ending_some

pub loop-end-smaller : goal.loop-end-smaller
loop-end-smaller c = let h = ending_some c.loop-end.invariant _ c.is_later.ensures c.loop-end-test.true in omega (arith, h)

pub loop-end-preserved : goal.loop-end-preserved
loop-end-preserved c = search ending_turn

pub returns : goal.returns
returns c = search ending_end
