-- `bits::packing::packed_len` meets its contract. Assumes nothing.
use Rattle.bits.proofs.Radix.{packed_fits, packed_binary, packed_hex}
use Rattle.bits.proofs.packing.packed_len.Goals as goal

pub overflow_add-result : goal.overflow_add-result
overflow_add-result c = search packed_fits

pub returns-in-Binary : goal.returns-in-Binary
returns-in-Binary c = search packed_binary

pub returns-in-Hex : goal.returns-in-Hex
returns-in-Hex c = search packed_hex
