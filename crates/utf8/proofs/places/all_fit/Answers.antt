-- `utf8::places::all_fit` meets its contract: where the first three do not fit, not all do. Assumes nothing.
use Rattle.utf8.proofs.PlaceScans.{three_fail}
use Rattle.utf8.proofs.places.all_fit.Goals as goal

pub returns-else-front_fits : goal.returns-else-front_fits
returns-else-front_fits c = search three_fail
