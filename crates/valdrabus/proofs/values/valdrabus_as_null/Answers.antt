-- `valdrabus::values::valdrabus_as_null` meets its contract. Assumes nothing.
use Rattle.valdrabus.proofs.Lending.{bare_of}
use Rattle.valdrabus.proofs.values.valdrabus_as_null.Goals as goal

pub returns : goal.returns
returns c = search bare_of
