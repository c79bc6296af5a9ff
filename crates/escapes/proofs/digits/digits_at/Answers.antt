-- `escapes::digits::digits_at` meets its contract. The loop's invariant: the bytes so far are digits, and the number is theirs. Assumes nothing.
use Rattle.escapes.proofs.Running.{run_past, running_over, running_full, running_other, running_turn, running_adds, running_scales}
use Rattle.escapes.proofs.digits.digits_at.Goals as goal

pub returns-then-body-at : goal.returns-then-body-at
returns-then-body-at c = search run_past

pub returns-then-left-count : goal.returns-then-left-count
returns-then-left-count c = search running_over

pub returns-then-base-digit : goal.returns-then-base-digit
returns-then-base-digit c = search running_other

pub overflow_mul-value : goal.overflow_mul-value
overflow_mul-value c = search running_scales

pub overflow_add-value : goal.overflow_add-value
overflow_add-value c = search running_adds

pub loop-count-preserved : goal.loop-count-preserved
loop-count-preserved c = search running_turn

pub returns : goal.returns
returns c = search running_full
