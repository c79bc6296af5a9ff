-- `valdrabus::writing::valdrabus_write_unicode` meets its contract. Assumes nothing.
use Rattle.valdrabus.proofs.Lending.{form_lengths}
use Rattle.valdrabus.proofs.writing.valdrabus_write_unicode.Goals as goal

pub returns : goal.returns
returns c = search form_lengths
