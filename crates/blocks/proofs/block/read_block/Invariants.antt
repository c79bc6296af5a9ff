-- `blocks::block::read_block` meets its contract. The loop's invariant, `Running`: the items before the place are told, and their values put. Assumes nothing.
use Prim.Native.Nat.{◌*◌}
use Rattle.blocks.proofs.Running.{Running}
use Rattle.blocks.proofs.block.read_block.Given as goal

abbrev pub invariant-loop-place : goal.invariant-loop-place
invariant-loop-place l = Running l.items l.source l.initial.answers l.initial.out l.answers l.out (4 * l.place) l.used
