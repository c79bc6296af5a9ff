-- `strings::joined::read_joined` meets its contract. The loop's invariant, `Rounds`: the buffer is as it was lent, and room that is lent on is what was counted.
-- The measure: at most one round is still to come. Assumes nothing.
use Prim.Native.Nat.{◌-◌}
use Rattle.strings.proofs.Wholes.{Rounds}
use Rattle.strings.proofs.joined.read_joined.Given as goal

abbrev pub invariant-loop-len : goal.invariant-loop-len
invariant-loop-len l = Rounds l.settings l.text l.initial.out l.out l.room

abbrev pub decreases-loop-len : goal.decreases-loop-len
decreases-loop-len l = 1 - l.room
