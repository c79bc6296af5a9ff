-- `valdrabus::texts::valdrabus_as_bit_text` meets its contract. Assumes nothing.
use Rattle.valdrabus.proofs.Lending.{tells_of}
use Rattle.valdrabus.proofs.texts.valdrabus_as_bit_text.Goals as goal

pub returns : goal.returns
returns c = search tells_of
