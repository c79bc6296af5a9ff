-- `questions::texts::as_str_in` meets its contract: the text in the span is tested and read, and the reading told of the source. Assumes nothing.
use Rattle.std.proofs.lemmas.Result.{err_from_is_err_and}
use Rattle.meaning.specs.declared.Refusal.TheVariants.{InvalidString}
use borrow.Author.Rules.{rules}
use Rattle.questions.proofs.Telling.{located_ordered, located_inside, plain_start, plain_end, plain_told, checked_fits, checked_told, checked_not}
use Rattle.questions.proofs.Telling.{located_barred}
use Rattle.questions.proofs.texts.as_str_in.Goals as goal

pub slice_bounds-text-count : goal.slice_bounds-text-count
slice_bounds-text-count c = search (located_ordered, c.in_ok-part.was)

pub slice_bounds-text-start : goal.slice_bounds-text-start
slice_bounds-text-start c = search (located_ordered, c.in_ok-part.was)

pub slice_bounds-text-end : goal.slice_bounds-text-end
slice_bounds-text-end c = search (located_inside, c.in_ok-part.was)

pub overflow_add-result : goal.overflow_add-result
overflow_add-result c = search (plain_start, c.in_ok-part.was)

pub overflow_sub-result : goal.overflow_sub-result
overflow_sub-result c = search (plain_end, c.in_ok-part.was)

pub returns-then-is_plain_ascii : goal.returns-then-is_plain_ascii
returns-then-is_plain_ascii c = search (plain_told, c.in_ok-part.was)

pub text_of-requires-clause-inside : goal.text_of-requires-clause-inside
text_of-requires-clause-inside c = search (checked_fits, c.in_ok-part.was)

pub returns-in-Ok : goal.returns-in-Ok
returns-in-Ok c = search (checked_told, c.in_ok-part.was, c.text_of.ensures (λ p. InvalidString c.args.literal.span p) (λ p x h. cc))

pub returns-in-Err : goal.returns-in-Err
returns-in-Err c = search (checked_not, c.in_ok-part.was)

pub returns-in_err-part : goal.returns-in_err-part
returns-in_err-part c =
    let p = err_from_is_err_and c.from_residual.result c.from_residual.ensures.1 in rw (p.1, p.2) (search (located_barred, c.in_err-part.was))
