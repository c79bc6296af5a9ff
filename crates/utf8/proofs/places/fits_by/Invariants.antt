-- `utf8::places::fits_by` meets its contract. The loop's invariant, `Fitting`: all bytes before i fit, and three stand there. The measure is what is left of the
-- length. Assumes nothing.
use Rattle.utf8.proofs.PlaceScans.{Fitting}
use Rattle.utf8.proofs.places.fits_by.Given as goal

abbrev pub invariant-loop-i : goal.invariant-loop-i
invariant-loop-i l = Fitting l.least l.bytes l.i
