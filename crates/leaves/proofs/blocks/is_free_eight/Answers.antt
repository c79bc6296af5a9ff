-- `leaves::blocks::is_free_eight` meets its contract. Where fewer bytes stand there, they are not eight. Assumes nothing.
use Rattle.leaves.proofs.Scans.{eight_none, eight_few}
use Rattle.leaves.proofs.blocks.is_free_eight.Goals as goal

pub returns-then-text-lt8 : goal.returns-then-text-lt8
returns-then-text-lt8 c = search eight_none

pub returns-then-text-at : goal.returns-then-text-at
returns-then-text-at c = search eight_few
