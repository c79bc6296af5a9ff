-- `lists::shown::columns_of` ends. The measure is what is left of the key. Assumes nothing.
use Rattle.std.proofs.Common.{length}
use Rattle.lists.proofs.shown.columns_of.Given as goal

abbrev pub decreases-loop-piece : goal.decreases-loop-piece
decreases-loop-piece l = length l.rest
