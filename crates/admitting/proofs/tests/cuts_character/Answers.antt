-- `admitting::tests::cuts_character` meets its contract: the code is the definition, by what the callee ensures. Assumes nothing.
use borrow.Author.Rules.{rules}
use Rattle.meaning.specs.Bytes.{within}
use Rattle.meaning.specs.Questions.{cuts_character}
use Rattle.admitting.proofs.tests.cuts_character.Goals as goal

pub returns : goal.returns
unfolding cuts_character within
returns c = rw c.byte_at-byte.ensures
