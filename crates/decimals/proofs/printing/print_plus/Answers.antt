-- `decimals::printing::print_plus` meets its contract. Assumes nothing.
use Rattle.decimals.proofs.Answering.{reads_short, reads_filled}
use Rattle.decimals.proofs.printing.print_plus.Goals as goal

pub returns-then-out-needed : goal.returns-then-out-needed
returns-then-out-needed c = search reads_short

pub returns : goal.returns
returns c = search reads_filled
