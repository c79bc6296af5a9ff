-- `bits::later::write_later` meets its contract. The loop's invariant: the buffer begins with the bodies before the cursor, of n bytes, and goes on as it
-- was lent. The measure is what is left behind the cursor. Assumes nothing.
use native.Mathlib.Omega.{arith}
use Rattle.bits.proofs.Turns.{body_opens, segment_some, body_ordered, body_inside, cursor_less}
use Rattle.bits.proofs.Turns.{put_start, put_end, put_remainder, put_within, put_fits, put_turn}
use Rattle.bits.proofs.later.write_later.Goals as goal

pub loop-start-init : goal.loop-start-init
loop-start-init c = search put_start

pub overflow_add-from : goal.overflow_add-from
overflow_add-from c = let h = body_opens _ _ _ _ c.next.ensures _ _ _ _ c.in-Segment.is in omega (arith, h)

pub overflow_sub-last : goal.overflow_sub-last
overflow_sub-last c = search segment_some

pub slice_bounds-put_bytes-count : goal.slice_bounds-put_bytes-count
slice_bounds-put_bytes-count c = search body_ordered

pub slice_bounds-put_bytes-start : goal.slice_bounds-put_bytes-start
slice_bounds-put_bytes-start c = search body_ordered

pub slice_bounds-put_bytes-end : goal.slice_bounds-put_bytes-end
slice_bounds-put_bytes-end c = search body_inside

pub slice_bounds-put_bytes-count-in-Segment : goal.slice_bounds-put_bytes-count-in-Segment
slice_bounds-put_bytes-count-in-Segment c = search put_within

pub slice_bounds-put_bytes-start-in-Segment : goal.slice_bounds-put_bytes-start-in-Segment
slice_bounds-put_bytes-start-in-Segment c = search put_within

pub overflow_sub-n : goal.overflow_sub-n
overflow_sub-n c = search body_ordered

pub overflow_add-n : goal.overflow_add-n
overflow_add-n c = let h = put_fits c.loop-start.invariant c.requires _ c.next.ensures _ _ _ _ c.in-Segment.is in
    omega (arith, h)

pub loop-start-smaller : goal.loop-start-smaller
loop-start-smaller c = search cursor_less

pub loop-start-preserved : goal.loop-start-preserved
loop-start-preserved c = search put_turn

pub shape_of-out-in-End : goal.shape_of-out-in-End
shape_of-out-in-End c = c.loop-start.invariant.same

pub returns-in-End : goal.returns-in-End
returns-in-End c = search put_end

pub shape_of-out-in-Remainder : goal.shape_of-out-in-Remainder
shape_of-out-in-Remainder c = c.loop-start.invariant.same

pub returns-in-Remainder : goal.returns-in-Remainder
returns-in-Remainder c = search put_remainder
