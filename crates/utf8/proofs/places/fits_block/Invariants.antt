-- `utf8::places::fits_block` meets its contract. The loop's invariant, `Counting`: so many of the bytes at the first j places fit. Assumes nothing.
use Rattle.leaves.proofs.Scans.{Counting}
use Rattle.utf8.specs.Places.{fitted, is_one}
use Rattle.utf8.proofs.places.fits_block.Given as goal

abbrev pub invariant-loop-j : goal.invariant-loop-j
invariant-loop-j l = Counting is_one l.n (fitted l.least 0 0 0 l.bytes) l.at l.count l.j
