-- `admitting::tests::is_placed` meets its contract. The code is the definition. Assumes nothing.
use borrow.Author.Rules.{rules}
use Rattle.admitting.specs.Tests.{is_placed}
use Rattle.admitting.proofs.tests.is_placed.Goals as goal

pub returns : goal.returns
unfolding is_placed
returns c = rw c.is_bad_span.ensures
