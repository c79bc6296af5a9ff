-- `records::printing::print_number` meets its contract. The loop's invariant: the digits of what is left are still to come.
-- The measure is what is left. Assumes nothing.
use Rattle.records.proofs.Digits.{Printing}
use Rattle.records.proofs.printing.print_number.Given as goal

abbrev pub invariant-loop-left : goal.invariant-loop-left
invariant-loop-left l = Printing l.value l.left l.i l.digits

abbrev pub decreases-loop-left : goal.decreases-loop-left
decreases-loop-left l = l.left
