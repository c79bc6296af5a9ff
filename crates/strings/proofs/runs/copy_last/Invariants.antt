-- `strings::runs::copy_last` meets its contract. The loop's invariant, `Lasting`: the bytes before the place are copied, and belong to the run. Assumes nothing.
use Rattle.strings.proofs.RunCopies.{Lasting}
use Rattle.strings.proofs.runs.copy_last.Given as goal

abbrev pub invariant-loop-place : goal.invariant-loop-place
invariant-loop-place l = Lasting l.first l.second l.text l.initial.out l.out l.place
