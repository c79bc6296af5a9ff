-- `decimals::printing::fill_low` meets its contract. Assumes nothing.
use Rattle.std.proofs.Common.{refl}
use Rattle.decimals.proofs.Decimals.{fill_start, fill_on, fill_end}
use Rattle.decimals.proofs.printing.fill_low.Goals as goal

pub loop-place-init : goal.loop-place-init
loop-place-init c = search fill_start

pub loop-place-preserved : goal.loop-place-preserved
loop-place-preserved c = fill_on c.loop-place.invariant c.loop-place-test.true _ _ refl refl

pub returns : goal.returns
returns c = search fill_end
