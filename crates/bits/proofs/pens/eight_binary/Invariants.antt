-- `bits::pens::eight_binary` meets its contract. The loop's invariant: j digits are read. The measure is what is left. Assumes nothing.
use Rattle.bits.proofs.Inking.{Reading}
use Rattle.bits.proofs.pens.eight_binary.Given as goal

abbrev pub invariant-loop-j : goal.invariant-loop-j
invariant-loop-j l = Reading l.digits l.at l.j l.byte
