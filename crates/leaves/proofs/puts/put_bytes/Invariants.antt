-- `leaves::puts::put_bytes` meets its contract. The invariant: the bytes before are copied. Assumes nothing.
use Rattle.laws.proofs.basics.Copies.{Copying}
use Rattle.leaves.proofs.puts.put_bytes.Given as goal

abbrev pub invariant-loop-place : goal.invariant-loop-place
invariant-loop-place l = Copying l.bytes l.initial.out l.out l.place
