-- `valdrabus::values::valdrabus_as_i64` meets its contract. Assumes nothing.
use Rattle.valdrabus.proofs.Lending.{counts_of}
use Rattle.valdrabus.proofs.values.valdrabus_as_i64.Goals as goal

pub returns : goal.returns
returns c = search counts_of
