-- `valdrabus::parts::valdrabus_source_text` meets its contract. Assumes nothing.
use Rattle.valdrabus.proofs.Lending.{says_of}
use Rattle.valdrabus.proofs.parts.valdrabus_source_text.Goals as goal

pub returns : goal.returns
returns c = search says_of
