-- `escapes::units::mark_unit` meets its contract: each way out has its law. Assumes nothing.
use Rattle.escapes.proofs.UnitLaws.{mark_alone, mark_pair}
use Rattle.escapes.proofs.units.mark_unit.Goals as goal

pub returns-then-byte_at-quote : goal.returns-then-byte_at-quote
returns-then-byte_at-quote c = search mark_alone

pub returns : goal.returns
returns c = search mark_pair
