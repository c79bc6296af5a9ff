-- `bits::finding::find_digits` meets its contract: the first segment's letter and digits, and what is measured behind it, say where the digits stand. Assumes nothing.
use native.Mathlib.Omega.{arith}
use Rattle.bits.proofs.Found.{first_some, first_ordered, first_inside, rest_inside, place_fits}
use Rattle.bits.proofs.Found.{finds_end, finds_remainder, finds_no_bits, finds_lone, finds_refused, finds_found}
use Rattle.std.proofs.Common.{ap, not}
use Rattle.bits.proofs.finding.find_digits.Goals as goal

pub overflow_sub-last : goal.overflow_sub-last
overflow_sub-last c = search first_some

pub slice_bounds-are_digits-count : goal.slice_bounds-are_digits-count
slice_bounds-are_digits-count c = search first_ordered

pub slice_bounds-are_digits-start : goal.slice_bounds-are_digits-start
slice_bounds-are_digits-start c = search first_ordered

pub slice_bounds-are_digits-end : goal.slice_bounds-are_digits-end
slice_bounds-are_digits-end c = search first_inside

pub returns-then-not-is_bit_letter-are_digits : goal.returns-then-not-is_bit_letter-are_digits
returns-then-not-is_bit_letter-are_digits c = search finds_no_bits

pub returns-then-end-text : goal.returns-then-end-text
returns-then-end-text c = search finds_lone

pub slice_bounds-measure_later-count : goal.slice_bounds-measure_later-count
slice_bounds-measure_later-count c = search rest_inside

pub slice_bounds-measure_later-start : goal.slice_bounds-measure_later-start
slice_bounds-measure_later-start c = search rest_inside

pub overflow_add-place : goal.overflow_add-place
overflow_add-place c = let h =
    place_fits _ _ _ _ c.new.ensures _ c.next.ensures _ _ _ _ c.in-Segment.is _ _ _ c.byte_at-letter.ensures
    c.is_bit_letter.ensures c.are_digits.ensures (ap not c.if-not-is_bit_letter-are_digits.false) _ c.measure_later.ensures _ c.in-Err.is in
    omega (arith, h)

pub returns-in-Ok : goal.returns-in-Ok
returns-in-Ok c = finds_found _ _ _ _ c.new.ensures _ c.next.ensures _ _ _ _ c.in-Segment.is _ _ _ c.byte_at-letter.ensures
    c.is_bit_letter.ensures c.are_digits.ensures (ap not c.if-not-is_bit_letter-are_digits.false) _ c.measure_later.ensures _ c.in-Ok.is

pub returns-in-Err : goal.returns-in-Err
returns-in-Err c = search finds_refused

pub returns-in-End : goal.returns-in-End
returns-in-End c = search finds_end

pub returns-in-Remainder : goal.returns-in-Remainder
returns-in-Remainder c = search finds_remainder
