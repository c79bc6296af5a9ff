-- `writer::bits::put_digits` meets its contract. The loop's invariant, `Digiting`: the digits of the bytes so far are put, and the rest of the buffer is as it
-- was lent. The measure is what is left of n. Assumes nothing.
use Rattle.writer.proofs.BitDigits as digits
use Rattle.writer.proofs.BitDigits.{Digiting}
use Rattle.writer.proofs.bits.put_digits.Goals as goal

pub loop-put-preserved : goal.loop-put-preserved
loop-put-preserved c = search digits.digiting_on

pub returns : goal.returns
returns c = search digits.digits_put
