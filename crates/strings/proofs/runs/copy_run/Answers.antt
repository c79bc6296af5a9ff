-- `strings::runs::copy_run` meets its contract: less than eight bytes one by one; less than sixteen by two words; else a block is put, and eight bytes and eight
-- more tell the run in it. Assumes nothing.
use native.Mathlib.Omega.{arith}
use Rattle.strings.proofs.RunCopies.{eight_most, copied_low, copied_high}
use Rattle.strings.proofs.runs.copy_run.Goals as goal

pub returns-then-low-lt8 : goal.returns-then-low-lt8
returns-then-low-lt8 c = search copied_low

pub overflow_add-result : goal.overflow_add-result
overflow_add-result c = omega (arith, eight_most _ _ _ _ c.eight_run.ensures)

pub returns : goal.returns
returns c = search copied_high
