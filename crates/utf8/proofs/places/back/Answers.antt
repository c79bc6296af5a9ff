-- `utf8::places::back` meets its contract: the byte that stands there, or a 0 of those before the text. Assumes nothing.
use Rattle.utf8.proofs.PlaceScans.{back_none, back_some}
use Rattle.utf8.proofs.places.back.Goals as goal

pub returns-then-bytes-k : goal.returns-then-bytes-k
returns-then-bytes-k c = search back_none

pub returns : goal.returns
returns c = search back_some
