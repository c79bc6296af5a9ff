-- `valdrabus::texts::decimal_called` meets its contract, whether the numbers name something or not. Assumes nothing.
use Rattle.valdrabus.proofs.Calling.{decimal_answered, decimal_unknown}
use Rattle.valdrabus.proofs.texts.decimal_called.Goals as goal

pub returns-in_default : goal.returns-in_default
returns-in_default c = search decimal_unknown

pub returns : goal.returns
returns c = search decimal_answered
