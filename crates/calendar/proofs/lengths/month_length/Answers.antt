-- `calendar::lengths::month_length` meets its contract. What February lacks of 30 days is taken off, and of another month what it lacks of 31. Assumes nothing.
use Rattle.calendar.proofs.Months.{lack_off, february_counted, one_off, length_counted}
use Rattle.calendar.proofs.lengths.month_length.Goals as goal

pub overflow_sub-result : goal.overflow_sub-result
overflow_sub-result c = search lack_off

pub returns-then-month-eq2 : goal.returns-then-month-eq2
returns-then-month-eq2 c = search february_counted

pub overflow_sub-result-2 : goal.overflow_sub-result-2
overflow_sub-result-2 c = search one_off

pub returns : goal.returns
returns c = search length_counted
