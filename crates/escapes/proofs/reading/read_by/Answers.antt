-- `escapes::reading::read_by` meets its contract: what the pass says of the body's course decides, and a second pass writes. Assumes nothing.
use mathlib.Core.Path.{ap, ◌∙◌}
use Rattle.std.specs.Prelude.{Ok}
use Rattle.escapes.proofs.Readings.{reads_plain, reads_stop, reads_long, reads_all}
use Rattle.escapes.proofs.reading.read_by.Goals as goal

pub returns-then-out-len : goal.returns-then-out-len
returns-then-out-len g c = search (reads_long, c.in-Ok-Some.is ∙ ap Ok c.in-Ok-Some.field-0-is)

pub returns-in-Ok-None : goal.returns-in-Ok-None
returns-in-Ok-None g c = search (reads_plain, c.in-Ok-None.is ∙ ap Ok c.in-Ok-None.field-0-is)

pub returns-else-out-len : goal.returns-else-out-len
returns-else-out-len g c = search (reads_all, c.in-Ok-Some.is ∙ ap Ok c.in-Ok-Some.field-0-is)

pub returns-in-Err : goal.returns-in-Err
returns-in-Err g c = search reads_stop
