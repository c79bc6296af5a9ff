-- `valdrabus::parts::source_called` meets its contract, whether the numbers name something or not. Assumes nothing.
use Rattle.valdrabus.proofs.Calling.{source_answered, source_unknown}
use Rattle.valdrabus.proofs.parts.source_called.Goals as goal

pub returns-in_default : goal.returns-in_default
returns-in_default c = search source_unknown

pub returns : goal.returns
returns c = search source_answered
