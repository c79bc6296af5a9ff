-- `questions::packing::as_packed_bits` meets its contract: the text in the span is packed, and the reading told of the literal. Assumes nothing.
use Rattle.std.proofs.lemmas.Result.{err_from_is_err_and}
use Rattle.questions.proofs.Spanned.{span_ordered, span_inside}
use Rattle.questions.proofs.Packed.{packed_barred, packed_countable, packed_told_lem}
use borrow.Author.Rules.{rules}
use Rattle.questions.proofs.packing.as_packed_bits.Goals as goal

pub slice_bounds-read_packed-count : goal.slice_bounds-read_packed-count
slice_bounds-read_packed-count c = search (span_ordered, c.in_ok-part.was)

pub slice_bounds-read_packed-start : goal.slice_bounds-read_packed-start
slice_bounds-read_packed-start c = search (span_ordered, c.in_ok-part.was)

pub slice_bounds-read_packed-end : goal.slice_bounds-read_packed-end
slice_bounds-read_packed-end c = search (span_inside, c.in_ok-part.was)

pub packed_of-requires : goal.packed_of-requires
packed_of-requires c = packed_countable _ c.bit_base-base.ensures c.test.ensures _ c.in_ok-part.was _ c.read_packed-packed.ensures
    c.radix_by.ensures (search rules)

pub returns : goal.returns
returns c = packed_told_lem _ c.bit_base-base.ensures c.test.ensures _ c.in_ok-part.was _ c.read_packed-packed.ensures
    c.radix_by.ensures _ c.packed_of.ensures

pub returns-in_err-part : goal.returns-in_err-part
returns-in_err-part c =
    let p = err_from_is_err_and c.from_residual.result c.from_residual.ensures.1 in rw (p.1, p.2) (search (packed_barred, c.in_err-part.was))
