-- `writer::lengths::block_cost` meets its contract. Assumes nothing.
use Rattle.std.proofs.Common.{arith}
use Rattle.writer.proofs.Measuring.{summing_more, summing_on}
use Rattle.writer.proofs.lengths.block_cost.Goals as goal

pub overflow_add-sum : goal.overflow_add-sum
overflow_add-sum g c = let h = summing_more c.loop-byte.invariant c.loop-byte-test.true _ c.byte_cost-sum.ensures in omega (arith, h, c.requires)

pub loop-byte-preserved : goal.loop-byte-preserved
loop-byte-preserved g c = search summing_on
