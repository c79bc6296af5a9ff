-- `valdrabus::parts::charset_called` meets its contract, whether the numbers name something or not. Assumes nothing.
use Rattle.valdrabus.proofs.Calling.{charset_answered, charset_unknown}
use Rattle.valdrabus.proofs.parts.charset_called.Goals as goal

pub returns-in_default : goal.returns-in_default
returns-in_default c = search charset_unknown

pub returns : goal.returns
returns c = search charset_answered
