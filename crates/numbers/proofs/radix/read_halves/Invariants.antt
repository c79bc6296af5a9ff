-- `numbers::radix::read_halves` meets its contract. The loop's invariant: the digits that are left, read on from the halves at hand, give what all
-- give, and each half fits. Assumes nothing.
use Prim.Native.Nat.{◌^◌, ◌*◌, ◌%◌}
use Rattle.numbers.proofs.Carrying.{Carrying}
use Rattle.numbers.proofs.radix.read_halves.Given as goal

abbrev pub invariant-loop-byte : goal.invariant-loop-byte
invariant-loop-byte g l = Carrying (1 * 2 ^ g.row.BITS % 2 ^ 64) l.text l.hi l.lo l.behind l.byte-index
