-- `strings::storing::put_behind` meets its contract. Assumes nothing.
use Rattle.strings.proofs.Storages.{behind_put, behind_none}
use Rattle.strings.proofs.storing.put_behind.Goals as goal

pub returns-then-total-out : goal.returns-then-total-out
returns-then-total-out c = search behind_put

pub returns-else-total-out : goal.returns-else-total-out
returns-else-total-out c = search behind_none
