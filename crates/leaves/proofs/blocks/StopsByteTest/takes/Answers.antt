-- `takes` at three stops meets its contract. Assumes nothing.
use Rattle.std.proofs.Common.{refl}
use Rattle.leaves.specs.Blocks.{free_of}
use Rattle.leaves.proofs.blocks.StopsByteTest.takes.Goals as goal

pub returns : goal.returns
unfolding free_of
returns c = refl
