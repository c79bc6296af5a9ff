-- `decimals::printing::fill_low` meets its contract. The loop's invariant: the last digits of what is left are still to come before what stands from the place
-- on. Assumes nothing.
use Rattle.std.proofs.Common.{length}
use Rattle.decimals.specs.Printing.{last_of}
use Rattle.decimals.proofs.Decimals.{Filling}
use Rattle.decimals.proofs.printing.fill_low.Given as goal

abbrev pub invariant-loop-place : goal.invariant-loop-place
invariant-loop-place l = Filling (last_of (length l.initial.out) l.value) (length l.initial.out) l.place l.left l.out
