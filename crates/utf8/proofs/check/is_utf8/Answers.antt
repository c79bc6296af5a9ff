-- `utf8::check::is_utf8` meets its contract: plain ASCII is UTF-8, and no byte is below 0. Assumes nothing.
use Rattle.utf8.proofs.PlainBytes.{run_utf8}
use Rattle.utf8.proofs.PlaceScans.{text_utf8}
use Rattle.utf8.proofs.check.is_utf8.Goals as goal

pub returns-then-is_plain_run : goal.returns-then-is_plain_run
returns-then-is_plain_run c = search run_utf8

pub returns : goal.returns
returns c = search text_utf8
