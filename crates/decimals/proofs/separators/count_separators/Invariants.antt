-- `decimals::separators::count_separators` meets its contract. The loop's invariant: what is left is placed, behind the byte passed last, where all is, and
-- the count is what the bytes passed are more than those kept of them. Assumes nothing.
use Rattle.decimals.proofs.Separating.{Passing}
use Rattle.decimals.proofs.separators.count_separators.Given as goal

abbrev pub invariant-loop-place : goal.invariant-loop-place
invariant-loop-place l = Passing l.text l.n l.place
