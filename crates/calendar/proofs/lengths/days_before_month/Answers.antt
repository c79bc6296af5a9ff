-- `calendar::lengths::days_before_month` meets its contract, by the closed form of the months before. Assumes nothing.
use Rattle.calendar.proofs.Months.{months_least, months_counted}
use Rattle.calendar.proofs.lengths.days_before_month.Goals as goal

pub overflow_sub-result-2 : goal.overflow_sub-result-2
overflow_sub-result-2 c = search months_least

pub returns : goal.returns
returns c = search months_counted
