-- `valdrabus::bit_strings::bit_write_called` meets its contract, whether the kind is a bit string's or not. Assumes nothing.
use Rattle.valdrabus.proofs.Calling.{bit_write_answered, bit_write_unknown}
use Rattle.valdrabus.proofs.bit_strings.bit_write_called.Goals as goal

pub returns-in_default : goal.returns-in_default
returns-in_default c = search bit_write_unknown

pub returns : goal.returns
returns c = search bit_write_answered
