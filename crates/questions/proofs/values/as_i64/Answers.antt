-- `questions::values::as_i64` meets its contract: the text in the span is read. Assumes nothing.
use Rattle.std.proofs.lemmas.Result.{err_from_is_err_and}
use Rattle.questions.proofs.Spanned.{span_ordered, span_inside}
use Rattle.questions.proofs.Counting.{integer_value_lem, integer_none, integer_barred}
use borrow.Author.Rules.{rules}
use Rattle.questions.proofs.values.as_i64.Goals as goal

pub slice_bounds-read_i64-count : goal.slice_bounds-read_i64-count
slice_bounds-read_i64-count c = search (span_ordered, c.in_ok-part.was)

pub slice_bounds-read_i64-start : goal.slice_bounds-read_i64-start
slice_bounds-read_i64-start c = search (span_ordered, c.in_ok-part.was)

pub slice_bounds-read_i64-end : goal.slice_bounds-read_i64-end
slice_bounds-read_i64-end c = search (span_inside, c.in_ok-part.was)

pub returns-in-Some : goal.returns-in-Some
returns-in-Some c = search (integer_value_lem, c.in_ok-part.was)

pub returns-in-None : goal.returns-in-None
returns-in-None c = search (integer_none, c.in_ok-part.was)

pub returns-in_err-part : goal.returns-in_err-part
returns-in_err-part c =
    let p = err_from_is_err_and c.from_residual.result c.from_residual.ensures.1 in rw (p.1, p.2) (search (integer_barred, c.in_err-part.was))
