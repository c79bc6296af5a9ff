-- `strings::alone::escape_in` meets its contract. Assumes nothing.
use Rattle.strings.proofs.Bodies.{escape_lent, escape_chosen}
use borrow.Author.Rules.{rules}
use Rattle.strings.proofs.alone.escape_in.Goals as goal

pub returns-then-start-end : goal.returns-then-start-end
returns-then-start-end c = search escape_lent

pub returns : goal.returns
returns c = search (escape_chosen, rules)
