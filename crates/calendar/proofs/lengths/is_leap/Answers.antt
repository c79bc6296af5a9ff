-- `calendar::lengths::is_leap` meets its contract. The code is the definition. Assumes nothing.
use mathlib.Core.Path.{refl}
use Rattle.meaning.specs.Dates.{is_leap}
use Rattle.calendar.proofs.lengths.is_leap.Goals as goal

pub returns : goal.returns
unfolding is_leap
returns c = refl
