-- `records::record::record_line` meets its contract: the line is made, then copied. Assumes nothing.
use Rattle.records.proofs.Lengths.{puts_line}
use Rattle.records.proofs.record.record_line.Goals as goal

pub returns : goal.returns
returns c = search puts_line
