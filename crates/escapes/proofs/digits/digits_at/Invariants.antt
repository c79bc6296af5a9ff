-- `escapes::digits::digits_at` meets its contract. The loop's invariant: the bytes so far are digits, and the number is theirs. Assumes nothing.
use Rattle.escapes.proofs.Running.{Running}
use Rattle.escapes.proofs.digits.digits_at.Given as goal

abbrev pub invariant-loop-count : goal.invariant-loop-count
invariant-loop-count l = Running l.base l.most l.body l.at l.count l.value
