-- `bits::reading::read_bits` meets its contract: the first segment's letter and digits, and where it ends, say which answer it is. Assumes nothing.
use Rattle.bits.proofs.Wholes.{bits_end, bits_remainder, first_some, first_ordered, first_inside, bits_ordered, bits_refused, bits_borrowed, bits_joined}
use Rattle.bits.proofs.reading.read_bits.Goals as goal

pub overflow_sub-last : goal.overflow_sub-last
overflow_sub-last c = search first_some

pub slice_bounds-are_digits-count : goal.slice_bounds-are_digits-count
slice_bounds-are_digits-count c = search first_ordered

pub slice_bounds-are_digits-start : goal.slice_bounds-are_digits-start
slice_bounds-are_digits-start c = search first_ordered

pub slice_bounds-are_digits-end : goal.slice_bounds-are_digits-end
slice_bounds-are_digits-end c = search first_inside

pub returns-then-not-is_bit_letter-are_digits : goal.returns-then-not-is_bit_letter-are_digits
returns-then-not-is_bit_letter-are_digits c = search bits_refused

pub returns-then-end-text : goal.returns-then-end-text
returns-then-end-text c = search bits_borrowed

pub join_bits-requires : goal.join_bits-requires
join_bits-requires c = search bits_ordered

pub returns-else-end-text : goal.returns-else-end-text
returns-else-end-text c = search bits_joined

pub returns-in-End : goal.returns-in-End
returns-in-End c = search bits_end

pub returns-in-Remainder : goal.returns-in-Remainder
returns-in-Remainder c = search bits_remainder
