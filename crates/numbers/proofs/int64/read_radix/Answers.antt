-- `numbers::int64::read_radix` meets its contract. The value behind the first sign is tested before that sign is put to it. Assumes nothing.
use Rattle.numbers.proofs.Fitting.{radix_negated, radix_plain, radix_refused}
use Rattle.numbers.proofs.int64.read_radix.Goals as goal

pub returns-then-minus : goal.returns-then-minus
returns-then-minus c = search (radix_negated, c.in_ok-value.was)

pub returns-else-minus : goal.returns-else-minus
returns-else-minus c = search (radix_plain, c.in_ok-value.was)

pub returns-in_err-value : goal.returns-in_err-value
returns-in_err-value c = rw c.from_residual.ensures (search (radix_refused, c.in_err-value.was))
