-- `questions::dates::ends_in_e` meets its contract. Assumes nothing.
use Rattle.questions.proofs.Quickly.{none_ends, other_ends}
use borrow.Author.Rules.{rules}
use Rattle.questions.proofs.dates.ends_in_e.Goals as goal

pub returns-then-words-eq0 : goal.returns-then-words-eq0
returns-then-words-eq0 c = search none_ends

pub returns : goal.returns
returns c = search other_ends
