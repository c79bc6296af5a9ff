-- `records::lines::push_front` meets its contract. Assumes nothing.
use Rattle.records.proofs.Heading.{front_pushed}
use Rattle.records.proofs.lines.push_front.Goals as goal

pub returns : goal.returns
returns c = search front_pushed
