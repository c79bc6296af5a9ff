-- `numbers::int64::read_ten` meets its contract. The sign is behind the text's start, and a refused magnitude is above 2^63. Assumes nothing.
use Rattle.numbers.proofs.Prefixes.{sign_inside}
use Rattle.numbers.proofs.Fitting.{ten_value, ten_refused}
use Rattle.numbers.proofs.int64.read_ten.Goals as goal

pub slice_bounds-read_digits-count : goal.slice_bounds-read_digits-count
slice_bounds-read_digits-count c = search sign_inside

pub slice_bounds-read_digits-start : goal.slice_bounds-read_digits-start
slice_bounds-read_digits-start c = search sign_inside

pub returns : goal.returns
returns c = search (ten_value, c.in_ok-magnitude.was)

pub returns-in_err-magnitude : goal.returns-in_err-magnitude
returns-in_err-magnitude c = rw c.from_residual.ensures (search (ten_refused, c.in_err-magnitude.was))
