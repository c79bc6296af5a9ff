-- `valdrabus::bit_strings::valdrabus_write_bit_literal` meets its contract. Assumes nothing.
use Rattle.valdrabus.proofs.Lending.{lengths_of}
use Rattle.valdrabus.proofs.bit_strings.valdrabus_write_bit_literal.Goals as goal

pub returns : goal.returns
returns c = search lengths_of
