-- `valdrabus::texts::temporal_called` meets its contract, whether the numbers name something or not. Assumes nothing.
use Rattle.valdrabus.proofs.Calling.{temporal_answered, temporal_unknown}
use Rattle.valdrabus.proofs.texts.temporal_called.Goals as goal

pub returns-in_default : goal.returns-in_default
returns-in_default c = search temporal_unknown

pub returns : goal.returns
returns c = search temporal_answered
