-- `bits::packing::pack_later` meets its contract. The loop's invariant: the bodies before the cursor are packed. The measure is what is left behind the cursor. Assumes nothing.
use native.Mathlib.Omega.{arith}
use Rattle.bits.proofs.Turns.{body_opens, segment_some, body_ordered, body_inside, cursor_less}
use Rattle.bits.proofs.Packings.{inked_none, inked_same, inked_packable, inked_turn, inked_end, inked_remainder}
use Rattle.bits.proofs.packing.pack_later.Goals as goal

pub loop-start-init : goal.loop-start-init
loop-start-init c = search inked_none

pub overflow_add-from : goal.overflow_add-from
overflow_add-from c = let h = body_opens _ _ _ _ c.next.ensures _ _ _ _ c.in-Segment.is in omega (arith, h)

pub overflow_sub-last : goal.overflow_sub-last
overflow_sub-last c = search segment_some

pub slice_bounds-pack_run-count : goal.slice_bounds-pack_run-count
slice_bounds-pack_run-count c = search body_ordered

pub slice_bounds-pack_run-start : goal.slice_bounds-pack_run-start
slice_bounds-pack_run-start c = search body_ordered

pub slice_bounds-pack_run-end : goal.slice_bounds-pack_run-end
slice_bounds-pack_run-end c = search body_inside

pub pack_run-pen-requires : goal.pack_run-pen-requires
pack_run-pen-requires c = search inked_packable

pub loop-start-smaller : goal.loop-start-smaller
loop-start-smaller c = search cursor_less

pub loop-start-preserved : goal.loop-start-preserved
loop-start-preserved c = search inked_turn

pub shape_of-out-in-End : goal.shape_of-out-in-End
shape_of-out-in-End c = search inked_same

pub returns-in-End : goal.returns-in-End
returns-in-End c = search inked_end

pub shape_of-out-in-Remainder : goal.shape_of-out-in-Remainder
shape_of-out-in-Remainder c = search inked_same

pub returns-in-Remainder : goal.returns-in-Remainder
returns-in-Remainder c = search inked_remainder
