-- `kinds::temporal::past_last` meets its contract. The loop's invariant: the byte does not stand from `place` on. Assumes nothing.
use Rattle.kinds.proofs.Finding.{LastBefore}
use Rattle.kinds.proofs.temporal.past_last.Given as goal

abbrev pub invariant-loop-place : goal.invariant-loop-place
invariant-loop-place l = LastBefore l.byte l.text l.place
