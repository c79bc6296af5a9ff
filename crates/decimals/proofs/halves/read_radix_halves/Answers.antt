-- `decimals::halves::read_radix_halves` meets its contract. Assumes nothing.
use Rattle.decimals.proofs.Halving.{first_minus, first_plain, first_refused}
use Rattle.decimals.proofs.halves.read_radix_halves.Goals as goal

pub returns-in_err-halves : goal.returns-in_err-halves
returns-in_err-halves c = rw c.from_residual.ensures (search (first_refused, c.in_err-halves.was))

pub returns-then-minus : goal.returns-then-minus
returns-then-minus c = search (first_minus, c.in_ok-halves.was)

pub returns : goal.returns
returns c = search (first_plain, c.in_ok-halves.was)
