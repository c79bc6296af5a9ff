-- `helpers::materialize_unicode_ident` meets its contract: what was read is told, but for the place of a refusal. Assumes nothing.
use Rattle.helpers.proofs.Identifiers.{identifier_bytes, identifier_borrowed, identifier_written, identifier_refused, identifier_short}
use Rattle.helpers.proofs.materialize_unicode_ident.Goals as goal

pub returns-then-not-is_utf8 : goal.returns-then-not-is_utf8
returns-then-not-is_utf8 c = search identifier_bytes

pub returns-in-Ok-Borrowed : goal.returns-in-Ok-Borrowed
returns-in-Ok-Borrowed c = let e = rw c.in-Ok-Borrowed.field-0-is at c.in-Ok-Borrowed.is in search (identifier_borrowed, e)

pub returns-in-Ok-Written : goal.returns-in-Ok-Written
returns-in-Ok-Written c = let e = rw c.in-Ok-Written.field-0-is at c.in-Ok-Written.is in search (identifier_written, e)

pub returns-in-Err-At : goal.returns-in-Err-At
returns-in-Err-At c = let e = rw c.in-Err-At.field-0-is at c.in-Err-At.is in search (identifier_refused, e)

pub returns-in-Err-NoRoom : goal.returns-in-Err-NoRoom
returns-in-Err-NoRoom c = let e = rw c.in-Err-NoRoom.field-0-is at c.in-Err-NoRoom.is in search (identifier_short, e)
