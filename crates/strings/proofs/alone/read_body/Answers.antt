-- `strings::alone::read_body` meets its contract: the part is read by its family and its escape character, and its answer placed. Assumes nothing.
use Rattle.strings.proofs.Bodies.{body_fits, body_reads}
use Rattle.strings.proofs.alone.read_body.Goals as goal

pub placed-requires : goal.placed-requires
placed-requires c = search body_fits

pub returns : goal.returns
returns c = search body_reads
