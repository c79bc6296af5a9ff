-- `bits::later::measure_later` meets its contract. The loop's invariant: the segments before the cursor have n digits. The measure is what is left behind
-- the cursor. Assumes nothing.
use native.Mathlib.Omega.{arith}
use Rattle.bits.proofs.Turns.{body_opens, segment_some, body_ordered, body_inside, cursor_less}
use Rattle.bits.proofs.Turns.{later_start, later_end, later_remainder, later_fits, later_refused, later_turn}
use Rattle.bits.proofs.later.measure_later.Goals as goal

pub loop-start-init : goal.loop-start-init
loop-start-init c = search later_start

pub overflow_add-from : goal.overflow_add-from
overflow_add-from c = let h = body_opens _ _ _ _ c.next.ensures _ _ _ _ c.in-Segment.is in omega (arith, h)

pub overflow_sub-last : goal.overflow_sub-last
overflow_sub-last c = search segment_some

pub slice_bounds-are_digits-count : goal.slice_bounds-are_digits-count
slice_bounds-are_digits-count c = search body_ordered

pub slice_bounds-are_digits-start : goal.slice_bounds-are_digits-start
slice_bounds-are_digits-start c = search body_ordered

pub slice_bounds-are_digits-end : goal.slice_bounds-are_digits-end
slice_bounds-are_digits-end c = search body_inside

pub returns-then-not-byte_at-are_digits : goal.returns-then-not-byte_at-are_digits
returns-then-not-byte_at-are_digits c = search later_refused

pub overflow_sub-n : goal.overflow_sub-n
overflow_sub-n c = search body_ordered

pub overflow_add-n : goal.overflow_add-n
overflow_add-n c = let h = later_fits c.loop-start.invariant _ c.next.ensures _ _ _ _ c.in-Segment.is in omega (arith, h)

pub loop-start-smaller : goal.loop-start-smaller
loop-start-smaller c = search cursor_less

pub loop-start-preserved : goal.loop-start-preserved
loop-start-preserved c = search later_turn

pub returns-in-End : goal.returns-in-End
returns-in-End c = search later_end

pub returns-in-Remainder : goal.returns-in-Remainder
returns-in-Remainder c = search later_remainder
