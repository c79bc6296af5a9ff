-- `valdrabus::writing::write_called` meets its contract, whether the setting names something or not. Assumes nothing.
use Rattle.valdrabus.proofs.Calling.{write_answered, write_unknown}
use Rattle.valdrabus.proofs.writing.write_called.Goals as goal

pub returns-then-setting-gt1 : goal.returns-then-setting-gt1
returns-then-setting-gt1 c = search write_unknown

pub returns : goal.returns
returns c = search write_answered
