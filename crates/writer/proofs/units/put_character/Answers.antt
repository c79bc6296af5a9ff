-- `writer::units::put_character` meets its contract: of an ASCII character the byte is the number. Assumes nothing.
use Rattle.writer.proofs.Spelled.{low_room, low_put}
use Rattle.writer.proofs.units.put_character.Goals as goal

pub put_low-requires : goal.put_low-requires
put_low-requires c = search low_room

pub returns-then-byte-lt128 : goal.returns-then-byte-lt128
returns-then-byte-lt128 c = search low_put
