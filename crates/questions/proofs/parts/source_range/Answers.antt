-- `questions::parts::source_range` meets its contract: what the tests tell is the answer. Assumes nothing.
use Rattle.questions.proofs.Ranging.{source_ranged}
use borrow.Author.Rules.{rules}
use Rattle.questions.proofs.parts.source_range.Goals as goal

pub returns : goal.returns
returns c = search source_ranged
