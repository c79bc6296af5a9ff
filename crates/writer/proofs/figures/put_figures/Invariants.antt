-- `writer::figures::put_figures` meets its contract. The loop's invariant, `Figuring`: the digits from the place on are put. Assumes nothing.
use Rattle.writer.proofs.Figuring.{Figuring}
use Rattle.writer.proofs.figures.put_figures.Given as goal

abbrev pub invariant-loop-place : goal.invariant-loop-place
invariant-loop-place l = Figuring l.number l.base l.initial.out l.out l.rest l.place
