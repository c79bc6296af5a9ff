-- `strings::joined::read_by_units` meets its contract. Assumes nothing.
use Rattle.strings.proofs.Bodies.{alone_reads}
use Rattle.strings.proofs.Wholes.{joined_reads, one_reads}
use Rattle.strings.proofs.joined.read_by_units.Goals as goal

pub returns-then-is_joined : goal.returns-then-is_joined
returns-then-is_joined c = search joined_reads

pub returns : goal.returns
returns c = search (one_reads, alone_reads)
