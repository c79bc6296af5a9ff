-- `writer::lengths::block_cost` meets its contract. The loop's invariant, `Summing`: what the first bytes cost. Assumes nothing.
use Rattle.writer.proofs.Measuring.{Summing}
use Rattle.writer.proofs.lengths.block_cost.Given as goal

abbrev pub invariant-loop-byte : goal.invariant-loop-byte
invariant-loop-byte g l = Summing (g.S.Spelling.manner l.spelling) l.block l.sum l.byte-index
