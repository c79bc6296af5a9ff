-- `writer::parts::is_later` meets its contract. Assumes nothing.
use Rattle.meaning.specs.Bytes.{within}
use borrow.Author.Rules.{rules}
use Rattle.writer.proofs.parts.is_later.Goals as goal

pub returns : goal.returns
unfolding within
returns c = search rules
