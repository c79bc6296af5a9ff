-- `writer::texts::put_value` meets its contract. Assumes nothing.
use Rattle.writer.proofs.Writings.{copied_whole}
use Rattle.writer.proofs.texts.put_value.Goals as goal

pub returns-then-whole : goal.returns-then-whole
returns-then-whole g c = search copied_whole
