-- `kinds::temporal::past_last` meets its contract. Assumes nothing.
use Rattle.kinds.proofs.Finding.{last_start, last_here, last_less, last_none}
use Rattle.kinds.proofs.temporal.past_last.Goals as goal

pub loop-place-init : goal.loop-place-init
loop-place-init c = search last_start

pub returns-then-text-place : goal.returns-then-text-place
returns-then-text-place c = search last_here

pub loop-place-preserved : goal.loop-place-preserved
loop-place-preserved c = search last_less

pub returns : goal.returns
returns c = search last_none
