-- `utf8::places::front_fits` meets its contract. The loop's invariant, `Fronting`: all bytes before i fit, and the last three of them are at hand. The measure is
-- what is left of n. Assumes nothing.
use Rattle.utf8.proofs.PlaceScans.{fronting_start, fronting_on, fronting_fails, fronting_end}
use Rattle.utf8.proofs.places.front_fits.Goals as goal

pub loop-i-init : goal.loop-i-init
loop-i-init c = search fronting_start

pub returns-then-not-fits_behind : goal.returns-then-not-fits_behind
returns-then-not-fits_behind c = search fronting_fails

pub loop-i-preserved : goal.loop-i-preserved
loop-i-preserved c = search fronting_on

pub returns : goal.returns
returns c = search fronting_end
