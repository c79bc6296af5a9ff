-- `lists::shown::show_key` ends. The measure is what is left of the key. Assumes nothing.
use Rattle.std.proofs.Common.{length}
use Rattle.lists.proofs.shown.show_key.Given as goal

abbrev pub decreases-loop-piece : goal.decreases-loop-piece
decreases-loop-piece l = length l.rest
