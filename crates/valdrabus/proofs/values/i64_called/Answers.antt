-- `valdrabus::values::i64_called` meets its contract, whether the numbers name something or not. Assumes nothing.
use Rattle.valdrabus.proofs.Calling.{i64_answered, i64_unknown}
use Rattle.valdrabus.proofs.values.i64_called.Goals as goal

pub returns-in_default : goal.returns-in_default
returns-in_default c = search i64_unknown

pub returns : goal.returns
returns c = search i64_answered
