-- `decimals::halves::read_signed_halves` meets its contract. Assumes nothing.
use Rattle.numbers.proofs.Prefixes.{sign_inside}
use Rattle.decimals.proofs.Halving.{halves_signed, halves_refused}
use Rattle.decimals.proofs.halves.read_signed_halves.Goals as goal

pub slice_bounds-read_radix_digits-count : goal.slice_bounds-read_radix_digits-count
slice_bounds-read_radix_digits-count c = search sign_inside

pub slice_bounds-read_radix_digits-start : goal.slice_bounds-read_radix_digits-start
slice_bounds-read_radix_digits-start c = search sign_inside

pub returns-in_err-halves : goal.returns-in_err-halves
returns-in_err-halves c = rw c.from_residual.ensures (search (halves_refused, c.in_err-halves.was))

pub returns : goal.returns
returns c = search (halves_signed, c.in_ok-halves.was)
