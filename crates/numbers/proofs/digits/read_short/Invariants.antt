-- `numbers::digits::read_short` meets its contract. The loop's invariant: the bytes so far are digits, and the number at hand is theirs, which is below
-- a power of ten. Assumes nothing.
use Rattle.numbers.proofs.Shorts.{Running}
use Rattle.numbers.proofs.digits.read_short.Given as goal

abbrev pub invariant-loop-byte : goal.invariant-loop-byte
invariant-loop-byte l = Running l.text l.value l.byte-index
