-- `writer::units::put_unit` meets its contract: the test is the definition's, and the other characters are the way's own. Assumes nothing.
use Rattle.writer.proofs.Putting.{put_same}
use Rattle.writer.proofs.Spelled.{at_doubled, at_room}
use Rattle.writer.proofs.units.put_unit.Goals as goal

pub put_two-requires : goal.put_two-requires
put_two-requires g c = at_room c.requires (at_doubled c.requires c.if-byte.true)

pub returns-then-byte : goal.returns-then-byte
returns-then-byte g c = put_same (at_doubled c.requires c.if-byte.true) c.put_two.ensures
