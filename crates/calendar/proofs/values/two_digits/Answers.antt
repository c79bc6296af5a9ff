-- `calendar::values::two_digits` meets its contract. Assumes nothing.
use Rattle.calendar.proofs.Digits.{pair_first, pair_second, pair_some, pair_is}
use Rattle.calendar.proofs.values.two_digits.Goals as goal

pub returns-then-first : goal.returns-then-first
returns-then-first c = search pair_first

pub returns-then-second : goal.returns-then-second
returns-then-second c = search pair_second

pub overflow_sub-result : goal.overflow_sub-result
overflow_sub-result c = search pair_some

pub returns : goal.returns
returns c = search pair_is
