-- `numbers::int64::negated` meets its contract. Only the least number's negation does not fit. Assumes nothing.
use Rattle.numbers.proofs.Signs.{least_refused, negated_fits, negated_value}
use Rattle.numbers.proofs.int64.negated.Goals as goal

pub returns-then-value-eqminus9223372036854775808 : goal.returns-then-value-eqminus9223372036854775808
returns-then-value-eqminus9223372036854775808 c = search least_refused

pub overflow_sub-result : goal.overflow_sub-result
overflow_sub-result c = search negated_fits

pub returns : goal.returns
returns c = search negated_value
