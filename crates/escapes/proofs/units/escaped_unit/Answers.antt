-- `escapes::units::escaped_unit` meets its contract: each way out has its law. Assumes nothing.
use Rattle.escapes.proofs.UnitLaws.{escaped_octal, escaped_hex, escaped_four, escaped_eight, escaped_letter}
use Rattle.escapes.proofs.units.escaped_unit.Goals as goal

pub returns-then-is_octal : goal.returns-then-is_octal
returns-then-is_octal c = search escaped_octal

pub returns-then-hex-gt0 : goal.returns-then-hex-gt0
returns-then-hex-gt0 c = search escaped_hex

pub returns-then-letter-eq117 : goal.returns-then-letter-eq117
returns-then-letter-eq117 c = search escaped_four

pub returns-then-letter-eq85 : goal.returns-then-letter-eq85
returns-then-letter-eq85 c = search escaped_eight

pub returns : goal.returns
returns c = search escaped_letter
