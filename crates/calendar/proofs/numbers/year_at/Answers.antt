-- `calendar::numbers::year_at` meets its contract, by the two divisions. Assumes nothing.
use mathlib.Core.Path.{refl}
use Rattle.calendar.proofs.Falling.{year_falls}
use Rattle.calendar.proofs.numbers.year_at.Goals as goal

pub returns : goal.returns
returns c = year_falls c.args.past _ _ _ _ refl refl refl refl c.requires
