-- `helpers::unicode_escape_string_is_valid` meets its contract. Each way out has its law, by the spelling and what was read. Assumes nothing.
use Rattle.helpers.proofs.Validity.{unicode_outside, unicode_text, unicode_short, unicode_refused}
use Rattle.helpers.proofs.unicode_escape_string_is_valid.Goals as goal

pub returns-in-Unspelt : goal.returns-in-Unspelt
returns-in-Unspelt c = search unicode_outside

pub returns-in-Ok : goal.returns-in-Ok
returns-in-Ok c = search unicode_text

pub returns-in-Err-At : goal.returns-in-Err-At
returns-in-Err-At c = let e = rw c.in-Err-At.field-0-is at c.in-Err-At.is in search (unicode_refused, e)

pub returns-in-Err-NoRoom : goal.returns-in-Err-NoRoom
returns-in-Err-NoRoom c = let e = rw c.in-Err-NoRoom.field-0-is at c.in-Err-NoRoom.is in search (unicode_short, e)
