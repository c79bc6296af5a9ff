-- `valdrabus::values::valdrabus_is_null` meets its contract. Assumes nothing.
use Rattle.valdrabus.proofs.Calling.{is_null_called}
use Rattle.valdrabus.proofs.values.valdrabus_is_null.Goals as goal

pub returns : goal.returns
returns c = search is_null_called
