-- `valdrabus::texts::string_called` meets its contract, whether the numbers name something or not. Assumes nothing.
use Rattle.valdrabus.proofs.Calling.{string_answered, string_unknown}
use Rattle.valdrabus.proofs.texts.string_called.Goals as goal

pub returns-in_default : goal.returns-in_default
returns-in_default c = search string_unknown

pub returns : goal.returns
returns c = search string_answered
