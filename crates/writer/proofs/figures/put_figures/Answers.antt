-- `writer::figures::put_figures` meets its contract. Assumes nothing.
use Rattle.writer.proofs.Figuring.{figuring_on}
use Rattle.writer.proofs.figures.put_figures.Goals as goal

pub loop-place-preserved : goal.loop-place-preserved
loop-place-preserved c = search figuring_on
