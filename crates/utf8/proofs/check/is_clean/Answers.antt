-- `utf8::check::is_clean` meets its contract: NUL alone is below 1. Assumes nothing.
use Rattle.utf8.proofs.PlaceScans.{text_clean}
use Rattle.utf8.proofs.StdUtf8.{clean_short}
use Rattle.utf8.proofs.check.is_clean.Goals as goal

pub returns : goal.returns
returns c = search text_clean

pub returns-then-is_short_text : goal.returns-then-is_short_text
returns-then-is_short_text c = clean_short c.args.bytes.now c.is_free.result c.is_free.ensures c.is_short_text.result c.is_short_text.ensures c.if-is_short_text.true
