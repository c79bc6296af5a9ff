-- `escapes::units::escape_letter` meets its contract: five choices, as the table has them. Assumes nothing.
use Rattle.escapes.proofs.UnitLaws.{letter_chosen}
use Rattle.escapes.proofs.units.escape_letter.Goals as goal

pub returns : goal.returns
returns c = search letter_chosen
