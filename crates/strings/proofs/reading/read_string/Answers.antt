-- `strings::reading::read_string` meets its contract: a text is told as it was tried, and by units where it is left to read. Assumes nothing.
use Rattle.strings.proofs.Fits.{text_checks, lacking_checks, unread_checks, not_checks}
use Rattle.strings.proofs.reading.read_string.Goals as goal

pub returns-in-Ok : goal.returns-in-Ok
returns-in-Ok c = search text_checks

pub returns-in-Err-NoRoom : goal.returns-in-Err-NoRoom
returns-in-Err-NoRoom c = let e = rw c.in-Err-NoRoom.field-0-is at c.in-Err-NoRoom.is in search (lacking_checks, e)

pub returns-in-Err-Unread : goal.returns-in-Err-Unread
returns-in-Err-Unread c = let e = rw c.in-Err-Unread.field-0-is at c.in-Err-Unread.is in search (unread_checks, e)

pub returns-in-Err-NotUtf8 : goal.returns-in-Err-NotUtf8
returns-in-Err-NotUtf8 c = let e = rw c.in-Err-NotUtf8.field-0-is at c.in-Err-NotUtf8.is in search (not_checks, e)
