-- `valdrabus::parts::money_called` meets its contract, whether the numbers name something or not. Assumes nothing.
use Rattle.valdrabus.proofs.Calling.{money_answered, money_unknown}
use Rattle.valdrabus.proofs.parts.money_called.Goals as goal

pub returns-in_default : goal.returns-in_default
returns-in_default c = search money_unknown

pub returns : goal.returns
returns c = search money_answered
