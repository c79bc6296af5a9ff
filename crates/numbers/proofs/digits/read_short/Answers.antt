-- `numbers::digits::read_short` meets its contract. The loop's invariant: the bytes so far are digits, and the number at hand is theirs, which is below
-- a power of ten. The measure is what is left of the length. Assumes nothing.
use Rattle.numbers.proofs.Shorts.{short_not, run_start, run_end, run_stop, run_on, run_sum, run_product}
use Rattle.numbers.proofs.digits.read_short.Goals as goal

pub returns-then-text : goal.returns-then-text
returns-then-text c = search short_not

pub loop-byte-init : goal.loop-byte-init
loop-byte-init c = search run_start

pub returns-then-digit-ge10 : goal.returns-then-digit-ge10
returns-then-digit-ge10 c = search run_stop

pub overflow_mul-value : goal.overflow_mul-value
overflow_mul-value c = search run_product

pub overflow_add-value : goal.overflow_add-value
overflow_add-value c = search run_sum

pub loop-byte-preserved : goal.loop-byte-preserved
loop-byte-preserved c = search run_on

pub returns : goal.returns
returns c = search run_end
