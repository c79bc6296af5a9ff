-- `utf8::places::fits_block` meets its contract. The loop's invariant, `Counting`: so many of the bytes at the first j places fit. Assumes nothing.
use Rattle.std.proofs.Common.{arith}
use Rattle.leaves.proofs.Scans.{one_most, counting_end}
use Rattle.leaves.proofs.Chunks.{byte_one}
use Rattle.utf8.proofs.PlaceScans.{places_start, places_on}
use Rattle.utf8.proofs.places.fits_block.Goals as goal

pub loop-j-init : goal.loop-j-init
loop-j-init c = search places_start

pub overflow_add-count : goal.overflow_add-count
overflow_add-count c = omega (arith, one_most c.fits_behind.result _ (byte_one _ _ c.from-count.ensures), c.loop-j.invariant.most)

pub loop-j-preserved : goal.loop-j-preserved
loop-j-preserved c = search places_on

pub returns : goal.returns
returns c = search counting_end
