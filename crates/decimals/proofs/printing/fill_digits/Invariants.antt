-- `decimals::printing::fill_digits` meets its contract. The loop's invariant: the digits of what is left are still to come before what stands from the place
-- on. The measure is what is left. Assumes nothing.
use Rattle.std.proofs.Common.{length}
use Rattle.meaning.specs.Numbers.{digits_of}
use Rattle.meaning.specs.Halves.{joined_halves}
use Rattle.decimals.proofs.Decimals.{Chunking}
use Rattle.decimals.proofs.printing.fill_digits.Given as goal

abbrev pub invariant-loop-left : goal.invariant-loop-left
invariant-loop-left l = Chunking (digits_of (joined_halves l.initial.left.hi l.initial.left.lo)) (length l.initial.out) l.end
    (joined_halves l.left.hi l.left.lo) l.out

abbrev pub decreases-loop-left : goal.decreases-loop-left
decreases-loop-left l = joined_halves l.left.hi l.left.lo
