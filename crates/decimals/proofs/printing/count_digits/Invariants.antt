-- `decimals::printing::count_digits` meets its contract. The loop's invariant: what is counted and the digits of what is left are those of the number. The
-- measure is what is left. Assumes nothing.
use Rattle.meaning.specs.Halves.{joined_halves}
use Rattle.decimals.proofs.Decimals.{Counting}
use Rattle.decimals.proofs.printing.count_digits.Given as goal

abbrev pub invariant-loop-left : goal.invariant-loop-left
invariant-loop-left l = Counting (joined_halves l.initial.left.hi l.initial.left.lo) (joined_halves l.left.hi l.left.lo) l.n

abbrev pub decreases-loop-left : goal.decreases-loop-left
decreases-loop-left l = joined_halves l.left.hi l.left.lo
