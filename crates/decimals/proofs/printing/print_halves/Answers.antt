-- `decimals::printing::print_halves` meets its contract. Assumes nothing.
use Rattle.decimals.proofs.Answering.{text_plus, text_minus}
use Rattle.decimals.proofs.printing.print_halves.Goals as goal

pub returns-then-halves-lt9223372036854775808 : goal.returns-then-halves-lt9223372036854775808
returns-then-halves-lt9223372036854775808 c = search text_plus

pub returns : goal.returns
returns c = search text_minus
