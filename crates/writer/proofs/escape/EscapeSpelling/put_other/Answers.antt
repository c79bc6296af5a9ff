-- `writer::escape::Escape::put_other` meets its contract. Assumes nothing.
use mathlib.Core.Path.{◌∙◌, sym}
use Rattle.writer.proofs.Putting.{put_same}
use Rattle.writer.proofs.Spelled.{at_letter, at_octal, at_room}
use Rattle.writer.proofs.escape.EscapeSpelling.put_other.Goals as goal

pub put_two-requires : goal.put_two-requires
put_two-requires c = at_room c.requires.unit (at_letter c.requires _ (sym c.escape_letter.ensures ∙ c.in-Some.is))

pub put_octal-requires : goal.put_octal-requires
put_octal-requires c = at_room c.requires.unit (at_octal c.requires (sym c.escape_letter.ensures ∙ c.in-None.is))

pub returns-in-Some : goal.returns-in-Some
returns-in-Some c = put_same (at_letter c.requires _ (sym c.escape_letter.ensures ∙ c.in-Some.is)) c.put_two.ensures

pub returns-in-None : goal.returns-in-None
returns-in-None c = put_same (at_octal c.requires (sym c.escape_letter.ensures ∙ c.in-None.is)) c.put_octal.ensures
