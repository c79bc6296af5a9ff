-- `valdrabus::values::valdrabus_as_bool` meets its contract. Assumes nothing.
use Rattle.valdrabus.proofs.Lending.{says_of}
use Rattle.valdrabus.proofs.values.valdrabus_as_bool.Goals as goal

pub returns : goal.returns
returns c = search says_of
