-- `leaves::blocks::past_blocks` meets its contract. The invariant: all before the block pass. Assumes nothing.
use Rattle.std.proofs.Common.{◌≡◌, ◌*◌}
use Rattle.leaves.proofs.Scans.{Before}
use Rattle.leaves.proofs.blocks.past_blocks.Given as goal

abbrev pub invariant-loop-block : goal.invariant-loop-block
invariant-loop-block g l = Before (g.T.ByteTest.takes l.test) l.text l.past × (l.past ≡ l.block-index * g.row.N)
