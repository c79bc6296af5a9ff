-- `leaves::blocks::is_block` meets its contract. Assumes nothing.
use Rattle.std.proofs.Common.{arith}
use Rattle.leaves.proofs.Scans.{one_most, counting_start}
use Rattle.leaves.proofs.Chunks.{byte_one, counting_next, counting_done}
use Rattle.leaves.proofs.blocks.is_block.Goals as goal

pub loop-byte-init : goal.loop-byte-init
loop-byte-init g c = counting_start _ _ _ _ (omega arith)

pub overflow_add-count : goal.overflow_add-count
overflow_add-count g c = omega (arith, one_most _ _ (byte_one _ _ c.from-count.ensures), c.loop-byte.invariant.most)

pub loop-byte-preserved : goal.loop-byte-preserved
loop-byte-preserved g c = search counting_next

pub returns : goal.returns
returns g c = search counting_done
