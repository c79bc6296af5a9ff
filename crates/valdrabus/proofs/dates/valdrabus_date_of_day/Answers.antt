-- `valdrabus::dates::valdrabus_date_of_day` meets its contract. Assumes nothing.
use Rattle.valdrabus.proofs.Lending.{finds_of}
use Rattle.valdrabus.proofs.dates.valdrabus_date_of_day.Goals as goal

pub returns : goal.returns
returns c = search finds_of
