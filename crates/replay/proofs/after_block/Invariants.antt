-- `replay::after_block` ends. The measure is what is left of the block. Assumes nothing.
use Rattle.std.proofs.Common.{length}
use Rattle.replay.proofs.after_block.Given as goal

abbrev pub decreases-loop-row : goal.decreases-loop-row
decreases-loop-row l = length l.rest
