-- `bits::pens::digit_of` meets its contract. Assumes nothing.
use Rattle.bits.proofs.Inking.{digit_known}
use Rattle.bits.proofs.pens.digit_of.Goals as goal

pub returns : goal.returns
returns c = search digit_known
