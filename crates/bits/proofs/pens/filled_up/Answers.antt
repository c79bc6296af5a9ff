-- `bits::pens::filled_up` meets its contract. Assumes nothing.
use Rattle.bits.proofs.Inking.{filled_shift}
use Rattle.bits.proofs.pens.filled_up.Goals as goal

pub returns : goal.returns
returns c = search filled_shift
