-- `valdrabus::dates::date_called` meets its contract, whether the numbers name something or not. Assumes nothing.
use Rattle.valdrabus.proofs.Calling.{date_answered, date_unknown}
use Rattle.valdrabus.proofs.dates.date_called.Goals as goal

pub returns-in_default : goal.returns-in_default
returns-in_default c = search date_unknown

pub returns : goal.returns
returns c = search date_answered
