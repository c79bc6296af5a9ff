-- `writer::bits::put_eight` meets its contract. Assumes nothing.
use Rattle.writer.proofs.BitDigits.{eight_put}
use Rattle.writer.proofs.bits.put_eight.Goals as goal

pub returns : goal.returns
returns c = search eight_put
