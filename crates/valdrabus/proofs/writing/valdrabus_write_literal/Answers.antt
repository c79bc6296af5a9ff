-- `valdrabus::writing::valdrabus_write_literal` meets its contract. Assumes nothing.
use Rattle.valdrabus.proofs.Lending.{lengths_of}
use Rattle.valdrabus.proofs.writing.valdrabus_write_literal.Goals as goal

pub returns : goal.returns
returns c = search lengths_of
