-- `leaves::texts::begins_by_blocks` meets its contract. Assumes nothing.
use Rattle.leaves.proofs.Starts.{starts_told}
use Rattle.leaves.proofs.texts.begins_by_blocks.Goals as goal

pub returns : goal.returns
returns c = search starts_told
