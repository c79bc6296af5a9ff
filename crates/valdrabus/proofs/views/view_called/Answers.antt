-- `valdrabus::views::view_called` meets its contract, by the two tests. Assumes nothing.
use Rattle.valdrabus.proofs.Viewing.{view_buffer, view_none, view_source}
use Rattle.valdrabus.proofs.views.view_called.Goals as goal

pub returns-then-how-first : goal.returns-then-how-first
returns-then-how-first c = search view_source

pub returns-then-how-first-2 : goal.returns-then-how-first-2
returns-then-how-first-2 c = search view_buffer

pub returns : goal.returns
returns c = search view_none
