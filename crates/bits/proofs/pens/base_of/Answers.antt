-- `bits::pens::base_of` meets its contract. Assumes nothing.
use Rattle.bits.proofs.Radix.{base_binary, base_hex}
use Rattle.bits.proofs.pens.base_of.Goals as goal

pub returns-in-Binary : goal.returns-in-Binary
returns-in-Binary c = search base_binary

pub returns-in-Hex : goal.returns-in-Hex
returns-in-Hex c = search base_hex
