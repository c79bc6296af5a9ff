-- `escapes::units::byte_unit` meets its contract. Assumes nothing.
use Rattle.escapes.proofs.UnitLaws.{one_zero, one_byte_lem}
use Rattle.escapes.proofs.units.byte_unit.Goals as goal

pub returns-then-byte-eq0 : goal.returns-then-byte-eq0
returns-then-byte-eq0 c = search one_zero

pub returns : goal.returns
returns c = search one_byte_lem
