-- `questions::parts::charset_introducer` meets its contract: the name is shown. Assumes nothing.
use Rattle.questions.proofs.Viewing.{charset_as}
use borrow.Author.Rules.{rules}
use Rattle.questions.proofs.parts.charset_introducer.Goals as goal

pub returns : goal.returns
returns c = search charset_as
