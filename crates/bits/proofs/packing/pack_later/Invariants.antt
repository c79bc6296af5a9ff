-- `bits::packing::pack_later` meets its contract. The loop's invariant: the bodies before the cursor are packed. The measure is what is left behind the cursor. Assumes nothing.
use Prim.Native.Nat.{◌-◌}
use lib.ListN.{length}
use Rattle.meaning.specs.Packing.{radix_bits}
use Rattle.bits.proofs.Packings.{Inked}
use Rattle.bits.proofs.packing.pack_later.Given as goal

abbrev pub invariant-loop-start : goal.invariant-loop-start
invariant-loop-start l = Inked (radix_bits l.radix) l.settings l.text l.initial.out l.initial.pen l.out l.pen l.cursor.at

abbrev pub decreases-loop-start : goal.decreases-loop-start
decreases-loop-start l = length l.text - l.cursor.at
