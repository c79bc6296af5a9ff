-- `escapes::units::uescaped_unit` meets its contract: each way out has its law. Assumes nothing.
use Rattle.escapes.proofs.UnitLaws.{high_half, uescaped_empty, uescaped_again, uescaped_plus, uescaped_high, uescaped_four}
use Rattle.escapes.proofs.units.uescaped_unit.Goals as goal

pub returns-then-len-eq0 : goal.returns-then-len-eq0
returns-then-len-eq0 c = search uescaped_empty

pub returns-then-starts_at : goal.returns-then-starts_at
returns-then-starts_at c = search uescaped_again

pub returns-then-byte_at-eq43 : goal.returns-then-byte_at-eq43
returns-then-byte_at-eq43 c = search uescaped_plus

pub low_half_unit-requires : goal.low_half_unit-requires
low_half_unit-requires c = search high_half

pub returns-then-value : goal.returns-then-value
returns-then-value c = search uescaped_high

pub returns : goal.returns
returns c = search uescaped_four
