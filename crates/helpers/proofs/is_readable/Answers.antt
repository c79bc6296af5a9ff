-- `helpers::is_readable` meets its contract: what is not refused goes to its end. Assumes nothing.
use Rattle.helpers.proofs.Validity.{reads_text, reads_short, reads_refused}
use Rattle.helpers.proofs.is_readable.Goals as goal

pub returns-in-Ok : goal.returns-in-Ok
returns-in-Ok c = search reads_text

pub returns-in-Err-At : goal.returns-in-Err-At
returns-in-Err-At c = let e = rw c.in-Err-At.field-0-is at c.in-Err-At.is in search (reads_refused, e)

pub returns-in-Err-NoRoom : goal.returns-in-Err-NoRoom
returns-in-Err-NoRoom c = let e = rw c.in-Err-NoRoom.field-0-is at c.in-Err-NoRoom.is in search (reads_short, e)
