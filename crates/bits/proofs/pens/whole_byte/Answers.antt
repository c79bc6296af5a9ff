-- `bits::pens::whole_byte` meets its contract, by the radix. Assumes nothing.
use Rattle.bits.proofs.Inking.{whole_binary, binary_whole, hex_first, hex_inside, hex_one, hex_two, hex_high, hex_fits, hex_whole}
use Rattle.bits.proofs.pens.whole_byte.Goals as goal

pub eight_binary-requires : goal.eight_binary-requires
eight_binary-requires c = search whole_binary

pub bounds-digits-at : goal.bounds-digits-at
bounds-digits-at c = search hex_first

pub digit_of-requires : goal.digit_of-requires
digit_of-requires c = search hex_one

pub overflow_mul-result : goal.overflow_mul-result
overflow_mul-result c = search hex_high

pub bounds-digits-at-in-Hex : goal.bounds-digits-at-in-Hex
bounds-digits-at-in-Hex c = search hex_inside

pub digit_of-requires-in-Hex : goal.digit_of-requires-in-Hex
digit_of-requires-in-Hex c = search hex_two

pub overflow_add-result : goal.overflow_add-result
overflow_add-result c = search hex_fits

pub returns-in-Binary : goal.returns-in-Binary
returns-in-Binary c = search binary_whole

pub returns-in-Hex : goal.returns-in-Hex
returns-in-Hex c = search hex_whole
