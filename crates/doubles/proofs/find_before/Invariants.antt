-- `doubles::find_before` meets its contract. The loop's invariant: the rows before the one at hand are taken (`Taken`): their answers and links stand before
-- what was lent, and the heads are those of the rows taken. Assumes nothing.
use Rattle.std.proofs.Common.{length}
use Rattle.doubles.proofs.AllRows.{Taken}
use Rattle.doubles.proofs.find_before.Given as goal

abbrev pub invariant-loop-row : goal.invariant-loop-row
invariant-loop-row l = Taken l.store l.ends (length l.initial.heads) l.initial.older l.initial.before l.heads l.older l.before l.row
