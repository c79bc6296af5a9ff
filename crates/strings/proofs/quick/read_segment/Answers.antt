-- `strings::quick::read_segment` meets its contract. Assumes nothing.
use Rattle.strings.proofs.Segmenting.{segment_none, opens_inside, body_within, body_before, segment_reads}
use Rattle.strings.proofs.quick.read_segment.Goals as goal

pub returns-then-not-opened : goal.returns-then-not-opened
returns-then-not-opened c = search segment_none

pub slice_bounds-read_body-count : goal.slice_bounds-read_body-count
slice_bounds-read_body-count c = search opens_inside

pub slice_bounds-read_body-start : goal.slice_bounds-read_body-start
slice_bounds-read_body-start c = search opens_inside

pub close_segment-requires : goal.close_segment-requires
close_segment-requires c = search (opens_inside, body_within, body_before)

pub returns : goal.returns
returns c = search segment_reads
