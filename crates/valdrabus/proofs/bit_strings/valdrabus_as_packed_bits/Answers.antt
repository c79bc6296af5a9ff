-- `valdrabus::bit_strings::valdrabus_as_packed_bits` meets its contract. Assumes nothing.
use Rattle.valdrabus.proofs.Lending.{packs_of}
use Rattle.valdrabus.proofs.bit_strings.valdrabus_as_packed_bits.Goals as goal

pub returns : goal.returns
returns c = search packs_of
