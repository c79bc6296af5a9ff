-- `valdrabus::values::null_called` meets its contract, whether the numbers name something or not. Assumes nothing.
use Rattle.valdrabus.proofs.Calling.{null_answered, null_unknown}
use Rattle.valdrabus.proofs.values.null_called.Goals as goal

pub returns-in_default : goal.returns-in_default
returns-in_default c = search null_unknown

pub returns : goal.returns
returns c = search null_answered
