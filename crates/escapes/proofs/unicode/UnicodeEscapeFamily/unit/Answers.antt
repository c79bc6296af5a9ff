-- `escapes::unicode::Unicode::unit` meets its contract: each way out has its law. Assumes nothing.
use Rattle.escapes.proofs.UnitLaws.{escape_inside}
use Rattle.escapes.proofs.unicode.UnicodeEscapeFamily.unit.Goals as goal

pub uescaped_unit-requires : goal.uescaped_unit-requires
uescaped_unit-requires c = search escape_inside
