-- `valdrabus::bare::valdrabus_split_radix_prefix` meets its contract. Assumes nothing.
use Rattle.valdrabus.proofs.Lending.{splits_of}
use Rattle.valdrabus.proofs.bare.valdrabus_split_radix_prefix.Goals as goal

pub returns : goal.returns
returns c = search splits_of
