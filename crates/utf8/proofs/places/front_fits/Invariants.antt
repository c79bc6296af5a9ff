-- `utf8::places::front_fits` meets its contract. The loop's invariant, `Fronting`: all bytes before i fit, and the last three of them are at hand. The measure is
-- what is left of n. Assumes nothing.
use Rattle.utf8.proofs.PlaceScans.{Fronting}
use Rattle.utf8.proofs.places.front_fits.Given as goal

abbrev pub invariant-loop-i : goal.invariant-loop-i
invariant-loop-i l = Fronting l.least l.bytes l.n l.third l.second l.before l.i
