-- `questions::parts::charset_end` meets its contract, by the first byte and the opening. Assumes nothing.
use Rattle.questions.proofs.Ranging.{name_none, name_unopened, name_ends}
use borrow.Author.Rules.{rules}
use Rattle.questions.proofs.parts.charset_end.Goals as goal

pub returns-then-byte_at-ne95 : goal.returns-then-byte_at-ne95
returns-then-byte_at-ne95 c = search name_none

pub returns-then-open-eq0 : goal.returns-then-open-eq0
returns-then-open-eq0 c = search name_unopened

pub returns : goal.returns
returns c = search name_ends
