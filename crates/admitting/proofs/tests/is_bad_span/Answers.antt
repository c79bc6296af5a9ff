-- `admitting::tests::is_bad_span` meets its contract: the code is the definition, by what the callee ensures. Assumes nothing.
use borrow.Author.Rules.{rules}
use Rattle.meaning.specs.Questions.{bad_span}
use Rattle.admitting.proofs.tests.is_bad_span.Goals as goal

pub returns : goal.returns
unfolding bad_span
returns c = rw (c.cuts_character.ensures, c.cuts_character-2.ensures)
