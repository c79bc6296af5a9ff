-- `records::lines::shown_line` meets its contract. Assumes nothing.
use Rattle.records.proofs.Heading.{line_pushed}
use Rattle.records.proofs.lines.shown_line.Goals as goal

pub returns : goal.returns
returns c = search line_pushed
