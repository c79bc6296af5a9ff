-- `numbers::digits::read_digits` meets its contract. The loop's invariant: the digits that are left, read on from the number at hand, give what all
-- give, and that number is below the limit. Assumes nothing.
use Rattle.numbers.proofs.Magnitudes.{Tallying}
use Rattle.numbers.proofs.digits.read_digits.Given as goal

abbrev pub invariant-loop-byte : goal.invariant-loop-byte
invariant-loop-byte l = Tallying l.text l.value l.behind l.byte-index
