-- `decimals::printing::count_low` meets its contract. The loop's invariant: the digits passed and those of what is left are as many as all.
-- The measure is what is left. Assumes nothing.
use Rattle.decimals.proofs.Decimals.{Counting}
use Rattle.decimals.proofs.printing.count_low.Given as goal

abbrev pub invariant-loop-left : goal.invariant-loop-left
invariant-loop-left l = Counting l.value l.left l.n

abbrev pub decreases-loop-left : goal.decreases-loop-left
decreases-loop-left l = l.left
