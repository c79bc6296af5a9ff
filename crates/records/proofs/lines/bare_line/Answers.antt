-- `records::lines::bare_line` meets its contract. Assumes nothing.
use Rattle.records.proofs.Heading.{line_pushed}
use Rattle.records.proofs.lines.bare_line.Goals as goal

pub returns : goal.returns
returns c = search line_pushed
