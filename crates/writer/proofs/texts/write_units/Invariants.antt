-- `writer::texts::write_units` meets its contract. The loop's invariant, `Spelling`: the spelling of the bytes so far is at the buffer's start, and the rest of
-- the buffer is as it was lent. The measure is what is left of the value. Assumes nothing.
use Prim.Native.Nat.{◌-◌}
use lib.ListN.{length}
use Rattle.writer.proofs.Writings.{Spelling}
use Rattle.writer.proofs.texts.write_units.Given as goal

abbrev pub invariant-loop-at : goal.invariant-loop-at
invariant-loop-at g l = Spelling (g.S.Spelling.manner l.spelling) l.value l.initial.out l.out l.n l.at

abbrev pub decreases-loop-at : goal.decreases-loop-at
decreases-loop-at g l = length l.value - l.at
