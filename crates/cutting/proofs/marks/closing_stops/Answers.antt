-- `cutting::marks::closing_stops` meets its contract. The code is the definition. Assumes nothing.
use Rattle.cutting.specs.Marks.{stops_by}
use Rattle.cutting.proofs.marks.closing_stops.Goals as goal

pub returns-then-hides : goal.returns-then-hides
unfolding stops_by
returns-then-hides c = rw c.if-hides.true

pub returns-else-hides : goal.returns-else-hides
unfolding stops_by
returns-else-hides c = rw c.if-hides.false
