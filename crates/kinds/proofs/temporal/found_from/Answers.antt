-- `kinds::temporal::found_from` meets its contract. Assumes nothing.
use Rattle.kinds.proofs.Finding.{found_start, found_here, found_more, found_none}
use Rattle.kinds.proofs.temporal.found_from.Goals as goal

pub loop-place-init : goal.loop-place-init
loop-place-init c = search found_start

pub returns-then-starts_at : goal.returns-then-starts_at
returns-then-starts_at c = search found_here

pub loop-place-preserved : goal.loop-place-preserved
loop-place-preserved c = search found_more

pub returns : goal.returns
returns c = search found_none
