-- `kinds::temporal::found_from` meets its contract. The loop's invariant: the text wanted stands nowhere from `at` up to `place`. Assumes nothing.
use Rattle.kinds.proofs.Finding.{FoundBehind}
use Rattle.kinds.proofs.temporal.found_from.Given as goal

abbrev pub invariant-loop-place : goal.invariant-loop-place
invariant-loop-place l = FoundBehind l.wanted l.text l.at l.place
