-- `writer::plain::Plain::put_other` meets its contract. Assumes nothing.
use Rattle.writer.proofs.Putting.{put_same}
use Rattle.writer.proofs.Spelled.{at_nul, at_room}
use Rattle.writer.proofs.plain.PlainSpelling.put_other.Goals as goal

pub put_two-requires : goal.put_two-requires
put_two-requires c = at_room c.requires.unit (at_nul c.requires)

pub returns : goal.returns
returns c = put_same (at_nul c.requires) c.put_two.ensures
