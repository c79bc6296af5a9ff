-- `escapes::units::is_octal` meets its contract. Assumes nothing.
use Rattle.escapes.proofs.UnitLaws.{octal_test}
use Rattle.escapes.proofs.units.is_octal.Goals as goal

pub returns : goal.returns
returns c = octal_test c.args.byte
