-- `writer::lengths::units_len` meets its contract. The loop's invariant, `Adding`: what is counted, with what the rest costs, is what all bytes cost.
-- Assumes nothing.
use Rattle.std.proofs.Common.{◌*◌}
use Rattle.writer.proofs.Measuring.{Adding}
use Rattle.writer.proofs.lengths.units_len.Given as goal

abbrev pub invariant-loop-block : goal.invariant-loop-block
invariant-loop-block g l = Adding (g.S.Spelling.manner l.spelling) l.value l.len (l.block-index * 16)
