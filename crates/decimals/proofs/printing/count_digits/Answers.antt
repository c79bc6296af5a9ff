-- `decimals::printing::count_digits` meets its contract. Assumes nothing.
use Rattle.std.proofs.Common.{arith}
use Rattle.decimals.proofs.Decimals.{count_start, count_fits, count_nine, billion_less, count_all, count_all_fits}
use Rattle.decimals.proofs.printing.count_digits.Goals as goal

pub loop-left-init : goal.loop-left-init
loop-left-init c = search count_start

pub overflow_add-n : goal.overflow_add-n
overflow_add-n c = count_fits c.loop-left.invariant 9 (omega arith)

pub loop-left-smaller : goal.loop-left-smaller
loop-left-smaller c = search billion_less

pub loop-left-preserved : goal.loop-left-preserved
loop-left-preserved c = search count_nine

pub overflow_add-result : goal.overflow_add-result
overflow_add-result c = search count_all_fits

pub returns : goal.returns
returns c = search count_all
