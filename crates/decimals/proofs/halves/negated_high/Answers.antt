-- `decimals::halves::negated_high` meets its contract. One less than the complement, unless the low half is zero. Assumes nothing.
use Rattle.decimals.proofs.Halving.{high_negated, high_borrowed}
use Rattle.decimals.proofs.halves.negated_high.Goals as goal

pub returns-then-lo-eq0 : goal.returns-then-lo-eq0
returns-then-lo-eq0 c = search high_negated

pub returns : goal.returns
returns c = search high_borrowed
