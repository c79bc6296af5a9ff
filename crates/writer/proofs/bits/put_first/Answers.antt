-- `writer::bits::put_first` meets its contract: the byte's digits stand in a buffer of its own, and the first of them are copied. Assumes nothing.
use Rattle.writer.proofs.BitDigits.{first_put}
use Rattle.writer.proofs.bits.put_first.Goals as goal

pub returns : goal.returns
returns c = search first_put
