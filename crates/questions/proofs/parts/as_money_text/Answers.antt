-- `questions::parts::as_money_text` meets its contract: the range is shown. Assumes nothing.
use Rattle.questions.proofs.Viewing.{range_as_lem}
use borrow.Author.Rules.{rules}
use Rattle.questions.proofs.parts.as_money_text.Goals as goal

pub returns : goal.returns
returns c = search range_as_lem
