-- `questions::texts::as_bit_text` meets its contract: the text in the span is read, and the reading told of the source. Assumes nothing.
use Rattle.std.proofs.lemmas.Result.{err_from_is_err_and}
use Rattle.questions.proofs.Spanned.{span_ordered, span_inside}
use Rattle.questions.proofs.Telling.{bits_fits, bits_told, bits_barred}
use Rattle.meaning.specs.declared.Refusal.TheVariants.{InvalidBitString}
use borrow.Author.Rules.{rules}
use Rattle.questions.proofs.texts.as_bit_text.Goals as goal

pub slice_bounds-digits-count : goal.slice_bounds-digits-count
slice_bounds-digits-count c = search (span_ordered, c.in_ok-part.was)

pub slice_bounds-digits-start : goal.slice_bounds-digits-start
slice_bounds-digits-start c = search (span_ordered, c.in_ok-part.was)

pub slice_bounds-digits-end : goal.slice_bounds-digits-end
slice_bounds-digits-end c = search (span_inside, c.in_ok-part.was)

pub text_of-requires-clause-inside : goal.text_of-requires-clause-inside
text_of-requires-clause-inside c = search (bits_fits, c.in_ok-part.was)

pub returns : goal.returns
returns c = search (bits_told, c.in_ok-part.was, c.text_of.ensures (λ p. InvalidBitString c.args.literal.span) (λ p x h. cc))

pub returns-in_err-part : goal.returns-in_err-part
returns-in_err-part c =
    let p = err_from_is_err_and c.from_residual.result c.from_residual.ensures.1 in rw (p.1, p.2) (search (bits_barred, c.in_err-part.was))
