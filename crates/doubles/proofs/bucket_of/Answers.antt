-- `doubles::bucket_of` meets its contract. Assumes nothing.
use Rattle.doubles.proofs.Sums.{summing_none, summing_turn, summing_end}
use Rattle.doubles.proofs.bucket_of.Goals as goal

pub loop-byte-init : goal.loop-byte-init
loop-byte-init c = summing_none _

pub loop-byte-preserved : goal.loop-byte-preserved
loop-byte-preserved c = search summing_turn

pub returns : goal.returns
returns c = search summing_end
