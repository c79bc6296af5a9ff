-- `doubles::bucket_of` meets its contract. The loop's invariant: the bytes before the one at hand are summed, and the sum is below the prime (`Summing`).
-- Assumes nothing.
use Rattle.doubles.proofs.Sums.{Summing}
use Rattle.doubles.proofs.bucket_of.Given as goal

abbrev pub invariant-loop-byte : goal.invariant-loop-byte
invariant-loop-byte l = Summing l.key l.sum l.byte-index
