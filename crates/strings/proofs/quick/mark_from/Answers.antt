-- `strings::quick::mark_from` meets its contract. Assumes nothing.
use Rattle.strings.proofs.Families.{mark_double}
use Rattle.strings.proofs.quick.mark_from.Goals as goal

pub returns-else-byte-eq39 : goal.returns-else-byte-eq39
returns-else-byte-eq39 c = search mark_double
