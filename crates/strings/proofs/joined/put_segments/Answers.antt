-- `strings::joined::put_segments` meets its contract. The loop's invariant, `JoinsAt`: the segments before the cursor mean n bytes, which are put where there is
-- room. The measure is what is left behind the cursor. Assumes nothing.
use Rattle.strings.proofs.Lending.{place_fits}
use borrow.Author.Rules.{rules}
use Rattle.strings.proofs.Joinings.{joins_start, joins_end, joins_remainder, segment_ordered, segment_inside, cursor_less, joins_turn}
use Rattle.strings.proofs.Joinings.{joins_fits, refused_fits, joins_refused}
use Rattle.strings.proofs.joined.put_segments.Goals as goal

pub loop-start-init : goal.loop-start-init
loop-start-init c = search joins_start

pub slice_bounds-put_segment-count : goal.slice_bounds-put_segment-count
slice_bounds-put_segment-count c = search segment_ordered

pub slice_bounds-put_segment-start : goal.slice_bounds-put_segment-start
slice_bounds-put_segment-start c = search segment_ordered

pub slice_bounds-put_segment-end : goal.slice_bounds-put_segment-end
slice_bounds-put_segment-end c = search segment_inside

pub overflow_add-n : goal.overflow_add-n
overflow_add-n c = search (place_fits, joins_fits)

pub overflow_add-result : goal.overflow_add-result
overflow_add-result c = search (place_fits, refused_fits)

pub returns-in-Err : goal.returns-in-Err
returns-in-Err c = search joins_refused

pub loop-start-smaller : goal.loop-start-smaller
loop-start-smaller c = search cursor_less

pub loop-start-preserved : goal.loop-start-preserved
loop-start-preserved c = search (joins_turn, rules)

pub shape_of-out-in-End : goal.shape_of-out-in-End
shape_of-out-in-End c = c.loop-start.invariant.same

pub returns-in-End : goal.returns-in-End
returns-in-End c = search joins_end

pub shape_of-out-in-Remainder : goal.shape_of-out-in-Remainder
shape_of-out-in-Remainder c = c.loop-start.invariant.same

pub returns-in-Remainder : goal.returns-in-Remainder
returns-in-Remainder c = search joins_remainder
