-- `utf8::places::fits_behind` meets its contract: a later byte where one is due, and else a first one (`fits_by_bits`). Assumes nothing.
use Rattle.meaning.specs.Bytes.{within}
use Rattle.utf8.specs.Places.{begins}
use Rattle.utf8.proofs.PlaceScans.{fits_by_bits}
use Rattle.utf8.proofs.places.fits_behind.Goals as goal

pub returns : goal.returns
unfolding within begins
returns c = search fits_by_bits
