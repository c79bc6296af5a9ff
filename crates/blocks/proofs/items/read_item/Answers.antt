-- `blocks::items::read_item` meets its contract, test by test. Assumes nothing.
use Rattle.strings.proofs.Fits.{ascii_long}
use Rattle.blocks.proofs.Answering.{unknown_asks, kind_asks, span_asks, span_ordered, span_inside, undecoded_asks, text_asks, text_fits}
use Rattle.blocks.proofs.Answering.{plain_fits, plain_asks}
use Rattle.blocks.proofs.items.read_item.Goals as goal

pub returns-then-not-is_known : goal.returns-then-not-is_known
returns-then-not-is_known c = search unknown_asks

pub returns-then-kind-ne4 : goal.returns-then-kind-ne4
returns-then-kind-ne4 c = search kind_asks

pub returns-then-is_bad_span : goal.returns-then-is_bad_span
returns-then-is_bad_span c = search span_asks

pub slice_bounds-text-count : goal.slice_bounds-text-count
slice_bounds-text-count c = search span_ordered

pub slice_bounds-text-start : goal.slice_bounds-text-start
slice_bounds-text-start c = search span_ordered

pub slice_bounds-text-end : goal.slice_bounds-text-end
slice_bounds-text-end c = search span_inside

pub overflow_sub-until : goal.overflow_sub-until
overflow_sub-until c = search ascii_long

pub read_told-requires : goal.read_told-requires
read_told-requires c = search plain_fits

pub returns-then-is_plain_ascii : goal.returns-then-is_plain_ascii
returns-then-is_plain_ascii c = search plain_asks

pub read_told-requires-in-Ok : goal.read_told-requires-in-Ok
read_told-requires-in-Ok c = search text_fits

pub returns-in-Ok : goal.returns-in-Ok
returns-in-Ok c = search text_asks

pub returns-in-Err : goal.returns-in-Err
returns-in-Err c = search undecoded_asks
