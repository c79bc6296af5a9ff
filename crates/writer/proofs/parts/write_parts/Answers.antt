-- `writer::parts::write_parts` meets its contract. The loop's invariant, `Writing`: the literals of the parts before the one at hand are at the buffer's start,
-- each with the gap behind it, and behind them what it held. The measure is what is left of the value. Assumes nothing.
use native.Mathlib.Omega.{arith}
use Rattle.writer.proofs.PartWriting as writing
use Rattle.writer.proofs.PartWriting.{Writing}
use Rattle.writer.proofs.parts.write_parts.Goals as goal

pub loop-end-init : goal.loop-end-init
loop-end-init c = search writing.writing_start

pub write_part-n-requires : goal.write_part-n-requires
write_part-n-requires c = search writing.more_fits

pub loop-end-smaller : goal.loop-end-smaller
loop-end-smaller c = let h = writing.writing_onward c.loop-end.invariant c.loop-end-test.true _ c.part_end-end-in-loop-end.ensures in
    omega (arith, h)

pub loop-end-preserved : goal.loop-end-preserved
loop-end-preserved c = search writing.writing_more

pub write_part-requires : goal.write_part-requires
write_part-requires c = search writing.last_fits

pub returns : goal.returns
returns c = search writing.all_put
