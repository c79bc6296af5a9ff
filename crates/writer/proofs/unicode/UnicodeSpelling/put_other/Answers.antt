-- `writer::unicode::Unicode::put_other` meets its contract. Assumes nothing.
use Rattle.writer.proofs.Putting.{put_same}
use Rattle.writer.proofs.Spelled.{at_scalar, at_room}
use Rattle.writer.proofs.unicode.UnicodeSpelling.put_other.Goals as goal

pub put_character-requires : goal.put_character-requires
put_character-requires c = (c.requires.unit.inside, at_room c.requires.unit (at_scalar c.requires))

pub returns : goal.returns
returns c = put_same (at_scalar c.requires) c.put_character.ensures
