-- `writer::texts::write_text` meets its contract: the opening, the value's characters behind it, and the mark. Assumes nothing.
use Rattle.writer.proofs.Writings.{opened, value_fits, mark_inside, text_put}
use Rattle.writer.proofs.texts.write_text.Goals as goal

pub put_value-requires : goal.put_value-requires
put_value-requires g c = search (value_fits, opened)

pub bounds-out-until : goal.bounds-out-until
bounds-out-until g c = search (mark_inside, opened)

pub returns : goal.returns
returns g c = search (text_put, opened)
