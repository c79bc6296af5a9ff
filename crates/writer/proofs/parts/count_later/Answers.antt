-- `writer::parts::count_later` meets its contract. The loop's invariant, `Counted`: what is counted, with the parts behind the place. The measure is what is
-- left of the value. Assumes nothing.
use native.Mathlib.Omega.{arith}
use Rattle.writer.proofs.Parting.{counted_start, counted_turn, counted_onward}
use Rattle.writer.proofs.parts.count_later.Goals as goal

pub loop-end-init : goal.loop-end-init
loop-end-init c = search counted_start

pub loop-end-smaller : goal.loop-end-smaller
loop-end-smaller c = let h = counted_onward c.loop-end.invariant c.loop-end-test.true _ c.part_end-end-in-loop-end.ensures in omega (arith, h)

pub loop-end-preserved : goal.loop-end-preserved
loop-end-preserved c = search counted_turn
