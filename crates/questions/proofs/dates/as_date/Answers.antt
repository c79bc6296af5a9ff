-- `questions::dates::as_date` meets its contract: the text in the span is read, and its day told. Assumes nothing.
use Rattle.std.proofs.lemmas.Result.{err_from_is_err_and}
use Rattle.questions.proofs.Spanned.{span_ordered, span_inside}
use Rattle.questions.proofs.Dating.{date_answered, date_barred}
use borrow.Author.Rules.{rules}
use Rattle.questions.proofs.dates.as_date.Goals as goal

pub slice_bounds-date_of-count : goal.slice_bounds-date_of-count
slice_bounds-date_of-count c = search (span_ordered, c.in_ok-part.was)

pub slice_bounds-date_of-start : goal.slice_bounds-date_of-start
slice_bounds-date_of-start c = search (span_ordered, c.in_ok-part.was)

pub slice_bounds-date_of-end : goal.slice_bounds-date_of-end
slice_bounds-date_of-end c = search (span_inside, c.in_ok-part.was)

pub returns : goal.returns
returns c = search (date_answered, c.in_ok-part.was)

pub returns-in_err-part : goal.returns-in_err-part
returns-in_err-part c =
    let p = err_from_is_err_and c.from_residual.result c.from_residual.ensures.1 in rw (p.1, p.2) (search (date_barred, c.in_err-part.was))
