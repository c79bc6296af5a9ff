-- `questions::texts::as_decimal_text` meets its contract: the text in the span is read, and each way that the reading ends told of the source. Assumes nothing.
use Rattle.std.proofs.lemmas.Result.{err_from_is_err_and}
use Rattle.questions.proofs.Spanned.{span_ordered, span_inside}
use Rattle.questions.proofs.Telling.{decimal_fits, decimal_told, decimal_barred}
use Rattle.meaning.specs.declared.Refusal.TheVariants.{InvalidInteger}
use borrow.Author.Rules.{rules}
use Rattle.questions.proofs.texts.as_decimal_text.Goals as goal

pub slice_bounds-read_decimal-count : goal.slice_bounds-read_decimal-count
slice_bounds-read_decimal-count c = search (span_ordered, c.in_ok-part.was)

pub slice_bounds-read_decimal-start : goal.slice_bounds-read_decimal-start
slice_bounds-read_decimal-start c = search (span_ordered, c.in_ok-part.was)

pub slice_bounds-read_decimal-end : goal.slice_bounds-read_decimal-end
slice_bounds-read_decimal-end c = search (span_inside, c.in_ok-part.was)

pub text_of-requires-clause-inside : goal.text_of-requires-clause-inside
text_of-requires-clause-inside c = search (decimal_fits, c.in_ok-part.was)

pub returns : goal.returns
returns c = search (decimal_told, c.in_ok-part.was, c.text_of.ensures (λ p. InvalidInteger c.args.literal.span) (λ p x h. cc))

pub returns-in_err-part : goal.returns-in_err-part
returns-in_err-part c =
    let p = err_from_is_err_and c.from_residual.result c.from_residual.ensures.1 in rw (p.1, p.2) (search (decimal_barred, c.in_err-part.was))
