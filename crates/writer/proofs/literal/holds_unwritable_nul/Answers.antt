-- `writer::literal::holds_unwritable_nul` meets its contract. Assumes nothing.
use Rattle.writer.proofs.Answering.{nul_spelled, nul_unspelled}
use Rattle.writer.proofs.literal.holds_unwritable_nul.Goals as goal

pub returns-then-settings : goal.returns-then-settings
returns-then-settings c = search nul_spelled

pub returns : goal.returns
returns c = search nul_unspelled
