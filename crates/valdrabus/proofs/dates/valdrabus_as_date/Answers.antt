-- `valdrabus::dates::valdrabus_as_date` meets its contract. Assumes nothing.
use Rattle.valdrabus.proofs.Lending.{dates_of}
use Rattle.valdrabus.proofs.dates.valdrabus_as_date.Goals as goal

pub returns : goal.returns
returns c = search dates_of
