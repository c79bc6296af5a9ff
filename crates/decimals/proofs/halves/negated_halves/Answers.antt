-- `decimals::halves::negated_halves` meets its contract. Assumes nothing.
use Rattle.decimals.specs.SignedHalves.{negated_halves}
use Rattle.decimals.proofs.halves.negated_halves.Goals as goal

pub returns-then-halves : goal.returns-then-halves
unfolding negated_halves
returns-then-halves c = rw c.if-halves.true

pub returns : goal.returns
unfolding negated_halves
returns c = rw (c.if-halves.false, c.negated.ensures)
