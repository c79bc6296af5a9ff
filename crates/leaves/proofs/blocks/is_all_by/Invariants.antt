-- `leaves::blocks::is_all_by` meets its contract. The invariant: all before the block pass. Assumes nothing.
use Rattle.std.proofs.Common.{◌*◌}
use Rattle.leaves.proofs.Scans.{Before}
use Rattle.leaves.proofs.blocks.is_all_by.Given as goal

abbrev pub invariant-loop-block : goal.invariant-loop-block
invariant-loop-block g l = Before (g.T.ByteTest.takes l.test) l.text (l.block-index * g.row.N)
