-- `leaves::blocks::is_block` meets its contract. The invariant: so many of the first bytes pass. Assumes nothing.
use Rattle.leaves.proofs.Scans.{Counting}
use Rattle.leaves.proofs.blocks.is_block.Given as goal

abbrev pub invariant-loop-byte : goal.invariant-loop-byte
invariant-loop-byte g l = Counting (g.T.ByteTest.takes l.test) g.row.N l.block 0 l.count l.byte-index
