-- `strings::taking::scalar_taken` meets its contract: each way out has its law. Assumes nothing.
use Rattle.strings.proofs.TakenUnits.{scalars_none, scalars_put}
use Rattle.strings.proofs.taking.scalar_taken.Goals as goal

pub returns-then-value-eq0 : goal.returns-then-value-eq0
returns-then-value-eq0 c = scalars_none _ _ _ c.none.ensures

pub returns-then-not-is_scalar : goal.returns-then-not-is_scalar
returns-then-not-is_scalar c = scalars_none _ _ _ c.none-then-not-is_scalar.ensures

pub returns : goal.returns
returns c = search scalars_put
