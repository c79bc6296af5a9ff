-- `valdrabus::bare::valdrabus_materialize_unicode_ident` meets its contract. Assumes nothing.
use Rattle.valdrabus.proofs.Lending.{identifier_tells}
use Rattle.valdrabus.proofs.bare.valdrabus_materialize_unicode_ident.Goals as goal

pub returns : goal.returns
returns c = search identifier_tells
