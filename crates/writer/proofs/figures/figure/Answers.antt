-- `writer::figures::figure` meets its contract. Assumes nothing.
use Rattle.writer.proofs.Figuring.{figure_decimal, figure_letter}
use Rattle.writer.proofs.figures.figure.Goals as goal

pub returns-then-digit-lt10 : goal.returns-then-digit-lt10
returns-then-digit-lt10 c = search figure_decimal

pub returns : goal.returns
returns c = search figure_letter
