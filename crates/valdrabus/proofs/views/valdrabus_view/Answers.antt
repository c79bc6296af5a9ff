-- `valdrabus::views::valdrabus_view` meets its contract. Assumes nothing.
use Rattle.valdrabus.proofs.Lending.{shows_of}
use Rattle.valdrabus.proofs.views.valdrabus_view.Goals as goal

pub returns : goal.returns
returns c = search shows_of
