-- `escapes::units::low_half_unit` meets its contract: each way out has its law. Assumes nothing.
use Rattle.escapes.proofs.UnitLaws.{low_absent, low_below, low_above, low_is}
use Rattle.escapes.proofs.units.low_half_unit.Goals as goal

pub returns-then-not-starts_at : goal.returns-then-not-starts_at
returns-then-not-starts_at c = search low_absent

pub returns-then-low-lt56320 : goal.returns-then-low-lt56320
returns-then-low-lt56320 c = search low_below

pub returns-then-low-gt57343 : goal.returns-then-low-gt57343
returns-then-low-gt57343 c = search low_above

pub returns : goal.returns
returns c = search low_is
