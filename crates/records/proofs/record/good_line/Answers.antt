-- `records::record::good_line` meets its contract: the text is the source, and the literal spans it. Assumes nothing.
use Rattle.records.proofs.Goods.{good_line}
use Rattle.records.proofs.record.good_line.Goals as goal

pub returns : goal.returns
returns c = search good_line
