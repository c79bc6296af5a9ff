-- `records::pushing::put_hex` meets its contract. The loop's invariant: the digits of the bytes before the one at hand are put. Assumes nothing.
use Rattle.records.proofs.Hexing.{Hexed}
use Rattle.records.proofs.pushing.put_hex.Given as goal

abbrev pub invariant-loop-at : goal.invariant-loop-at
invariant-loop-at l = Hexed l.text l.initial.place l.place l.at
