-- `utf8::places::is_text` meets its contract, by the theorem on places. Assumes nothing.
use Rattle.utf8.proofs.PlaceScans.{text_due, text_fits}
use Rattle.utf8.proofs.places.is_text.Goals as goal

pub returns-then-is_due : goal.returns-then-is_due
returns-then-is_due c = search text_due

pub returns : goal.returns
returns c = search text_fits
