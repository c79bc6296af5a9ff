-- `strings::runs::copy_short` meets its contract: two words are put, and tell the run. Assumes nothing.
use native.Mathlib.Omega.{arith}
use Rattle.strings.proofs.RunCopies.{eight_most, short_low, short_high}
use Rattle.strings.proofs.runs.copy_short.Goals as goal

pub returns-then-low-lt8 : goal.returns-then-low-lt8
returns-then-low-lt8 c = search short_low

pub overflow_add-result : goal.overflow_add-result
overflow_add-result c = omega (arith, eight_most _ _ _ _ c.eight_run.ensures)

pub returns : goal.returns
returns c = search short_high
