-- `calendar::numbers::month_at` meets its contract, on both sides of the leap day. Assumes nothing.
use Rattle.calendar.proofs.MonthFalls.{day_fits, day_scaled, day_summed, month_counted}
use Rattle.calendar.proofs.numbers.month_at.Goals as goal

pub overflow_add-behind : goal.overflow_add-behind
overflow_add-behind c = search day_fits

pub overflow_add-result : goal.overflow_add-result
overflow_add-result c = search day_fits

pub overflow_mul-result : goal.overflow_mul-result
overflow_mul-result c = search day_scaled

pub overflow_add-result-2 : goal.overflow_add-result-2
overflow_add-result-2 c = search day_summed

pub returns : goal.returns
returns c = search month_counted
