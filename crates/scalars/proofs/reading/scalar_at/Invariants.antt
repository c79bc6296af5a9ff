-- `scalars::reading::scalar_at` meets its contract. The loop's invariant: what the bytes still due make of the number so far is the number of the character
-- at the place, and the number is small. Assumes nothing.
use Rattle.utf8.specs.Tails.{due_of}
use Rattle.scalars.proofs.Gathering.{Gathering}
use Rattle.scalars.proofs.reading.scalar_at.Given as goal

abbrev pub invariant-loop-place : goal.invariant-loop-place
invariant-loop-place l = Gathering l.text l.at (due_of l.tail) l.number l.place
