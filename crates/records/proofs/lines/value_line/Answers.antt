-- `records::lines::value_line` meets its contract. Assumes nothing.
use Rattle.records.proofs.Heading.{value_pushed}
use Rattle.records.proofs.lines.value_line.Goals as goal

pub returns : goal.returns
returns c = search value_pushed
