-- `utf8::places::is_due` meets its contract. The code is the definition. Assumes nothing.
use Rattle.std.proofs.Common.{refl}
use Rattle.utf8.specs.Places.{is_due}
use Rattle.utf8.proofs.places.is_due.Goals as goal

pub returns : goal.returns
unfolding is_due
returns c = refl
