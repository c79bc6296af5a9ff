-- `writer::literal::is_over_limit` meets its contract. Assumes nothing.
use mathlib.Core.Path.{sym}
use mathlib.Core.Bool.{or-false}
use Rattle.meaning.specs.Writer.{over_limit}
use Rattle.writer.proofs.literal.is_over_limit.Goals as goal

pub returns-in-Whole : goal.returns-in-Whole
unfolding over_limit
returns-in-Whole c = rw c.in-Whole.is (sym (or-false _))

pub returns-in-AtMost : goal.returns-in-AtMost
unfolding over_limit
returns-in-AtMost c = rw c.in-AtMost.is
