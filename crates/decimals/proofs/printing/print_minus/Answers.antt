-- `decimals::printing::print_minus` meets its contract. The digits are counted before any byte is written; the minus comes last. Assumes nothing.
use Rattle.decimals.proofs.Answering.{behind_short, behind_wrote, digits_fit}
use Rattle.decimals.proofs.printing.print_minus.Goals as goal

pub overflow_add-needed : goal.overflow_add-needed
overflow_add-needed c = search digits_fit

pub returns-then-out-needed : goal.returns-then-out-needed
returns-then-out-needed c = search behind_short

pub returns : goal.returns
returns c = search behind_wrote
