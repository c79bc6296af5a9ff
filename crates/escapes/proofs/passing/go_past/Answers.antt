-- `escapes::passing::go_past` meets its contract: the bytes break UTF-8, or the pass goes on. Assumes nothing.
use Rattle.escapes.proofs.Turns.{moves_on}
use Rattle.escapes.proofs.passing.go_past.Goals as goal

pub returns : goal.returns
returns g c = search moves_on
