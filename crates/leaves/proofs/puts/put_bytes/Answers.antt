-- `leaves::puts::put_bytes` meets its contract: the bytes before a place are copied, and the rest of the buffer is as it was. Assumes nothing.
use Rattle.laws.proofs.basics.Copies.{copying_none, copying_turn}
use Rattle.leaves.proofs.Putting.{puts_none, copying_end}
use Rattle.leaves.proofs.puts.put_bytes.Goals as goal

pub returns-then-out-bytes : goal.returns-then-out-bytes
returns-then-out-bytes c = puts_none _ _ c.if-out-bytes.true

pub loop-place-init : goal.loop-place-init
loop-place-init c = copying_none _ _ c.if-out-bytes.false

pub loop-place-preserved : goal.loop-place-preserved
loop-place-preserved c = search copying_turn

pub shape_of-out : goal.shape_of-out
shape_of-out c = c.loop-place.invariant.same

pub returns : goal.returns
returns c = copying_end c.loop-place.invariant c.loop-place-test.false
