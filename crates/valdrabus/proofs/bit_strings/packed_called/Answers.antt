-- `valdrabus::bit_strings::packed_called` meets its contract, whether the numbers name something or not. Assumes nothing.
use Rattle.valdrabus.proofs.Calling.{packed_answered, packed_unknown}
use Rattle.valdrabus.proofs.bit_strings.packed_called.Goals as goal

pub returns-in_default : goal.returns-in_default
returns-in_default c = search packed_unknown

pub returns : goal.returns
returns c = search packed_answered
