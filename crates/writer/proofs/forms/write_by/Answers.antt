-- `writer::forms::write_by` meets its contract. Assumes nothing.
use Rattle.writer.proofs.FormAnswers.{no_room, text_written}
use Rattle.writer.proofs.forms.write_by.Goals as goal

pub returns-then-out-measured : goal.returns-then-out-measured
returns-then-out-measured g c = search no_room

pub returns : goal.returns
returns g c = search text_written
