-- `valdrabus::values::bool_called` meets its contract, whether the numbers name something or not. Assumes nothing.
use Rattle.valdrabus.proofs.Calling.{bool_answered, bool_unknown}
use Rattle.valdrabus.proofs.values.bool_called.Goals as goal

pub returns-in_default : goal.returns-in_default
returns-in_default c = search bool_unknown

pub returns : goal.returns
returns c = search bool_answered
