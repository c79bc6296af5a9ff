-- `strings::reading::read_bytes` meets its contract: a plain text is told by its scan, any other as it was tried, or by units. Assumes nothing.
use Rattle.strings.proofs.Fits.{ascii_long, ascii_reads, text_reads, lacking_reads, unread_reads, not_reads}
use Rattle.strings.proofs.reading.read_bytes.Goals as goal

pub overflow_sub-until : goal.overflow_sub-until
overflow_sub-until c = search ascii_long

pub returns-then-is_plain_ascii : goal.returns-then-is_plain_ascii
returns-then-is_plain_ascii c = search ascii_reads

pub returns-in-Ok : goal.returns-in-Ok
returns-in-Ok c = search text_reads

pub returns-in-Err-NoRoom : goal.returns-in-Err-NoRoom
returns-in-Err-NoRoom c = let e = rw c.in-Err-NoRoom.field-0-is at c.in-Err-NoRoom.is in search (lacking_reads, e)

pub returns-in-Err-Unread : goal.returns-in-Err-Unread
returns-in-Err-Unread c = let e = rw c.in-Err-Unread.field-0-is at c.in-Err-Unread.is in search (unread_reads, e)

pub returns-in-Err-NotUtf8 : goal.returns-in-Err-NotUtf8
returns-in-Err-NotUtf8 c = let e = rw c.in-Err-NotUtf8.field-0-is at c.in-Err-NotUtf8.is in search (not_reads, e)
