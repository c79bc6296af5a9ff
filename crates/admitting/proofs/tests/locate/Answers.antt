-- `admitting::tests::locate` meets its contract. Assumes nothing.
use borrow.Author.Rules.{rules}
use Rattle.admitting.proofs.Passing.{unfitting_place, located_not, located}
use Rattle.admitting.proofs.tests.locate.Goals as goal

pub returns-then-not-right : goal.returns-then-not-right
returns-then-not-right c = search unfitting_place

pub returns-then-not-is_placed : goal.returns-then-not-is_placed
returns-then-not-is_placed c = search located_not

pub returns : goal.returns
returns c = search located
