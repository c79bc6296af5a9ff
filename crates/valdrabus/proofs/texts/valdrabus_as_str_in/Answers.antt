-- `valdrabus::texts::valdrabus_as_str_in` meets its contract. Assumes nothing.
use Rattle.valdrabus.proofs.Lending.{place_tells}
use Rattle.valdrabus.proofs.texts.valdrabus_as_str_in.Goals as goal

pub returns : goal.returns
returns c = search place_tells
