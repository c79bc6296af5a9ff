-- `decimals::printing::count_low` meets its contract. The loop's invariant: the digits passed and those of what is left are as many as all.
-- The measure is what is left. Assumes nothing.
use Rattle.std.proofs.Common.{refl, arith}
use Rattle.decimals.proofs.Decimals.{count_low_start, count_on, count_fits, count_end}
use Rattle.decimals.proofs.printing.count_low.Goals as goal

pub loop-left-init : goal.loop-left-init
loop-left-init c = search count_low_start

pub overflow_add-n : goal.overflow_add-n
overflow_add-n c = count_fits c.loop-left.invariant 1 (omega arith)

pub loop-left-preserved : goal.loop-left-preserved
loop-left-preserved c = count_on c.loop-left.invariant 1 c.loop-left-test.true _ refl

pub overflow_add-result : goal.overflow_add-result
overflow_add-result c = count_fits c.loop-left.invariant 1 (omega arith)

pub returns : goal.returns
returns c = search count_end
