-- `records::printing::print_number` meets its contract. The loop's invariant: the digits of what is left are still to come.
-- The measure is what is left. Assumes nothing.
use native.Mathlib.Omega.{arith}
use Rattle.records.proofs.Digits.{printing_start, printing_first, printing_turn, printing_end}
use Rattle.records.proofs.printing.print_number.Goals as goal

pub loop-left-init : goal.loop-left-init
loop-left-init c = printing_start _ c.ranges.value _ c.told-digits

pub overflow_sub-i : goal.overflow_sub-i
overflow_sub-i c = omega (arith, printing_first c.loop-left.invariant)

pub loop-left-preserved : goal.loop-left-preserved
loop-left-preserved c = printing_turn c.loop-left.invariant c.loop-left-test.true

pub returns : goal.returns
returns c = printing_end c.loop-left.invariant c.loop-left-test.false
