-- `calendar::lengths::days_of_years` meets its contract, by the closed form of the years. Assumes nothing.
use Rattle.calendar.proofs.Years.{years_counted}
use Rattle.calendar.proofs.lengths.days_of_years.Goals as goal

pub returns : goal.returns
returns c = search years_counted
