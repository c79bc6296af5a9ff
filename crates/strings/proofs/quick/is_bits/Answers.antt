-- `strings::quick::is_bits` meets its contract. Assumes nothing.
use Rattle.strings.proofs.Families.{bits_four}
use Rattle.strings.proofs.quick.is_bits.Goals as goal

pub returns : goal.returns
returns c = search bits_four
