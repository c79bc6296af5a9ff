-- `questions::parts::money_range` meets its contract: the text in the span is read, and the reading told of the source. Assumes nothing.
use Rattle.std.proofs.lemmas.Result.{err_from_is_err_and}
use Rattle.questions.proofs.Spanned.{span_ordered, span_inside}
use Rattle.questions.proofs.Ranging.{money_fits, money_told, money_barred}
use borrow.Author.Rules.{rules}
use Rattle.questions.proofs.parts.money_range.Goals as goal

pub slice_bounds-read_money-count : goal.slice_bounds-read_money-count
slice_bounds-read_money-count c = search (span_ordered, c.in_ok-part.was)

pub slice_bounds-read_money-start : goal.slice_bounds-read_money-start
slice_bounds-read_money-start c = search (span_ordered, c.in_ok-part.was)

pub slice_bounds-read_money-end : goal.slice_bounds-read_money-end
slice_bounds-read_money-end c = search (span_inside, c.in_ok-part.was)

pub range_of-requires : goal.range_of-requires
range_of-requires c = search (money_fits, c.in_ok-part.was)

pub returns : goal.returns
returns c = search (money_told, c.in_ok-part.was)

pub returns-in_err-part : goal.returns-in_err-part
returns-in_err-part c =
    let p = err_from_is_err_and c.from_residual.result c.from_residual.ensures.1 in rw (p.1, p.2) (search (money_barred, c.in_err-part.was))
