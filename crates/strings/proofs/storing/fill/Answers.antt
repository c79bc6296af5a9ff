-- `strings::storing::fill` meets its contract. Assumes nothing.
use Rattle.strings.proofs.Fillings.{fills}
use Rattle.strings.proofs.storing.fill.Goals as goal

pub returns : goal.returns
returns c = search fills
