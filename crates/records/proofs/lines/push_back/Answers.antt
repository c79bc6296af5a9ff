-- `records::lines::push_back` meets its contract. Assumes nothing.
use Rattle.records.proofs.Heading.{back_pushed}
use Rattle.records.proofs.lines.push_back.Goals as goal

pub returns : goal.returns
returns c = search back_pushed
