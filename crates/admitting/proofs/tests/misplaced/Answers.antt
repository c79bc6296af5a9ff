-- `admitting::tests::misplaced` meets its contract. The code is the definition. Assumes nothing.
use Rattle.admitting.proofs.tests.misplaced.Goals as goal

pub returns-then-literal : goal.returns-then-literal
returns-then-literal c = rw c.if-literal.true

pub returns : goal.returns
returns c = rw c.if-literal.false
