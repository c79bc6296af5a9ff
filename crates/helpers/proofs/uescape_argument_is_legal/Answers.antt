-- `helpers::uescape_argument_is_legal` meets its contract. Assumes nothing.
use Rattle.helpers.proofs.Validity.{argument_legal, argument_illegal}
use Rattle.helpers.proofs.uescape_argument_is_legal.Goals as goal

pub returns-in-Legal : goal.returns-in-Legal
returns-in-Legal c = search argument_legal

pub returns-in-Illegal : goal.returns-in-Illegal
returns-in-Illegal c = search argument_illegal
