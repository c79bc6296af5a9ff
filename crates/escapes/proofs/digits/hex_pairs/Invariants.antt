-- `escapes::digits::hex_pairs` meets its contract. The loop's invariant: whether each byte so far is a digit, and their number. Assumes nothing.
use Rattle.escapes.proofs.Hexes.{Hexing}
use Rattle.escapes.proofs.digits.hex_pairs.Given as goal

abbrev pub invariant-loop-i : goal.invariant-loop-i
invariant-loop-i g l = Hexing l.body l.at g.row.PAIRS l.i l.whole l.value
