-- `strings::ident::read_ident` meets its contract. Assumes nothing.
use Rattle.strings.proofs.Bodies.{ident_reads}
use Rattle.strings.proofs.ident.read_ident.Goals as goal

pub returns : goal.returns
returns c = search ident_reads
