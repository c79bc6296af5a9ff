-- `decimals::separators::copy_without` meets its contract. The loop's invariant: the buffer begins with the bytes kept so far, and those kept of what is left
-- follow them. Assumes nothing.
use Rattle.decimals.proofs.Separating.{Skipping}
use Rattle.decimals.proofs.separators.copy_without.Given as goal

abbrev pub invariant-loop-byte : goal.invariant-loop-byte
invariant-loop-byte l = Skipping l.text l.initial.out l.out l.byte-index l.end
