-- `escapes::passing::pass_units` meets its contract. The loop's invariant, `Passing`: what the units so far stand for is counted, and written where there is
-- room. The measure is what is left of the body. Assumes nothing.
use borrow.Author.Rules.{rules}
use Rattle.escapes.proofs.Turns.{passing_none, turn_again, passes_unfinished, passes_plain, passes_length}
use Rattle.escapes.proofs.passing.pass_units.Goals as goal

pub loop-pass-init : goal.loop-pass-init
loop-pass-init g c = passing_none _ _ _ _ (search rules)

pub loop-pass-preserved : goal.loop-pass-preserved
loop-pass-preserved g c = search turn_again

pub returns-then-not-is_whole : goal.returns-then-not-is_whole
returns-then-not-is_whole g c = search passes_unfinished

pub returns-then-pass : goal.returns-then-pass
returns-then-pass g c = search passes_plain

pub returns : goal.returns
returns g c = search passes_length
