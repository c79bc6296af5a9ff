-- `utf8::tail::due_next` meets its contract. The code is the definition. Assumes nothing.
use Rattle.meaning.specs.Bytes.{within}
use Rattle.utf8.proofs.tail.due_next.Goals as goal

pub returns-then-low-byte : goal.returns-then-low-byte
unfolding within
returns-then-low-byte c = rw c.if-low-byte.true

pub returns : goal.returns
unfolding within
returns c = rw c.if-low-byte.false
