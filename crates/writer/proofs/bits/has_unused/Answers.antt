-- `writer::bits::has_unused` meets its contract. Assumes nothing.
use Rattle.writer.proofs.BitTests.{unused_none, unused_last}
use Rattle.writer.proofs.bits.has_unused.Goals as goal

pub returns-then-used-eq0 : goal.returns-then-used-eq0
returns-then-used-eq0 c = search unused_none

pub returns : goal.returns
returns c = search unused_last
