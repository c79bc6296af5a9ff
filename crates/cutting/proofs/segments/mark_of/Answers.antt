-- `cutting::segments::mark_of` meets its contract. A mark that is no ' is ". Assumes nothing.
use Rattle.cutting.proofs.Closes.{mark_other}
use Rattle.cutting.proofs.segments.mark_of.Goals as goal

pub returns-else-byte-eq39 : goal.returns-else-byte-eq39
returns-else-byte-eq39 c m = mark_other _ m c.if-byte-eq39.false
