-- `writer::bits::put_digits` meets its contract. The loop's invariant, `Digiting`: the digits of the bytes so far are put, and the rest of the buffer is as it
-- was lent. The measure is what is left of n. Assumes nothing.
use Prim.Native.Nat.{◌-◌}
use Rattle.writer.proofs.BitDigits.{Digiting}
use Rattle.writer.proofs.bits.put_digits.Given as goal

abbrev pub invariant-loop-put : goal.invariant-loop-put
invariant-loop-put l = Digiting l.radix l.n l.bytes l.initial.out l.out l.put l.at

abbrev pub decreases-loop-put : goal.decreases-loop-put
decreases-loop-put l = l.n - l.put
