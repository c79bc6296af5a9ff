-- `admitting::tests::test` meets its contract, by whether the kind fits. Assumes nothing.
use borrow.Author.Rules.{rules}
use Rattle.admitting.proofs.Passing.{fitting, unfitting}
use Rattle.admitting.proofs.tests.test.Goals as goal

pub returns-then-right : goal.returns-then-right
returns-then-right c = search fitting

pub returns : goal.returns
returns c = search unfitting
