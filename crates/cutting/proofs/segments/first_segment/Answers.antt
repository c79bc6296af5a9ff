-- `cutting::segments::first_segment` meets its contract. An opening ends in its mark, inside the text; behind it the search answers where the segment closes.
-- Assumes nothing.
use native.Mathlib.Omega.{arith}
use Rattle.cutting.proofs.Cuts.{segment_none, opened_inside, opened_fits, Searched, searched, segment_found, segment_unclosed, found_inside}
use Rattle.cutting.proofs.segments.first_segment.Goals as goal

pub returns-then-open-eq0 : goal.returns-then-open-eq0
returns-then-open-eq0 c = search segment_none

pub bounds-text-open : goal.bounds-text-open
bounds-text-open c = search opened_inside

pub slice_bounds-closing_mark-count : goal.slice_bounds-closing_mark-count
slice_bounds-closing_mark-count c = search opened_fits

pub slice_bounds-closing_mark-start : goal.slice_bounds-closing_mark-start
slice_bounds-closing_mark-start c = search opened_fits

pub overflow_add-result : goal.overflow_add-result
overflow_add-result c = let behind_here : Searched c.args.settings c.args.text.now
    c.opening_len-open.result c.closing_mark.result = search searched in
    let i = found_inside behind_here _ c.in-Some.is in omega arith

pub overflow_add-result-2 : goal.overflow_add-result-2
overflow_add-result-2 c = let behind_here : Searched c.args.settings c.args.text.now
    c.opening_len-open.result c.closing_mark.result = search searched in
    let i = found_inside behind_here _ c.in-Some.is in omega arith

pub returns : goal.returns
returns c = let behind_here : Searched c.args.settings c.args.text.now
    c.opening_len-open.result c.closing_mark.result = search searched in
    segment_found behind_here _ c.in-Some.is

pub returns-in_default : goal.returns-in_default
returns-in_default c = let behind_here : Searched c.args.settings c.args.text.now
    c.opening_len-open.result c.closing_mark.result = search searched in
    search (segment_unclosed, behind_here)
