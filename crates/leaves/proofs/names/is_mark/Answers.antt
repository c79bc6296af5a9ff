-- `leaves::names::is_mark` meets its contract. The code asks the two marks in the order of the definition. Assumes nothing.
use mathlib.Core.Bool.{or-false}
use Rattle.meaning.specs.Bytes.{is_mark}
use Rattle.leaves.proofs.names.is_mark.Goals as goal

pub returns : goal.returns
unfolding is_mark
returns c = rw or-false
