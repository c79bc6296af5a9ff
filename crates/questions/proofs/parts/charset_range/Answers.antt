-- `questions::parts::charset_range` meets its contract: the name ends in the text of the span. Assumes nothing.
use Rattle.std.proofs.lemmas.Result.{err_from_is_err_and}
use Rattle.questions.proofs.Spanned.{span_ordered, span_inside}
use Rattle.questions.proofs.Ranging.{charset_begins, charset_fits, charset_unnamed, charset_told_lem, charset_barred}
use borrow.Author.Rules.{rules}
use Rattle.questions.proofs.parts.charset_range.Goals as goal

pub slice_bounds-charset_end-count : goal.slice_bounds-charset_end-count
slice_bounds-charset_end-count c = search (span_ordered, c.in_ok-part.was)

pub slice_bounds-charset_end-start : goal.slice_bounds-charset_end-start
slice_bounds-charset_end-start c = search (span_ordered, c.in_ok-part.was)

pub slice_bounds-charset_end-end : goal.slice_bounds-charset_end-end
slice_bounds-charset_end-end c = search (span_inside, c.in_ok-part.was)

pub returns-then-n-eq0 : goal.returns-then-n-eq0
returns-then-n-eq0 c = search (charset_unnamed, c.in_ok-part.was)

pub overflow_add-result : goal.overflow_add-result
overflow_add-result c = search (charset_begins, c.in_ok-part.was)

pub overflow_add-result-2 : goal.overflow_add-result-2
overflow_add-result-2 c = search (charset_fits, c.in_ok-part.was)

pub returns : goal.returns
returns c = search (charset_told_lem, c.in_ok-part.was)

pub returns-in_err-part : goal.returns-in_err-part
returns-in_err-part c =
    let p = err_from_is_err_and c.from_residual.result c.from_residual.ensures.1 in rw (p.1, p.2) (search (charset_barred, c.in_err-part.was))
