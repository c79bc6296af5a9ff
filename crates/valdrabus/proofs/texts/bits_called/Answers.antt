-- `valdrabus::texts::bits_called` meets its contract, whether the numbers name something or not. Assumes nothing.
use Rattle.valdrabus.proofs.Calling.{bits_answered, bits_unknown}
use Rattle.valdrabus.proofs.texts.bits_called.Goals as goal

pub returns-in_default : goal.returns-in_default
returns-in_default c = search bits_unknown

pub returns : goal.returns
returns c = search bits_answered
