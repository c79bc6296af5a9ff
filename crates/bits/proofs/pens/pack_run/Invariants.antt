-- `bits::pens::pack_run` meets its contract. The loop's invariant: the first i digits are packed, whatever follows. The measure is what is left. Assumes nothing.
use Prim.Native.Nat.{◌-◌}
use lib.ListN.{length}
use Rattle.meaning.specs.Packing.{radix_bits}
use Rattle.bits.proofs.Runs.{Going}
use Rattle.bits.proofs.pens.pack_run.Given as goal

abbrev pub invariant-loop-i : goal.invariant-loop-i
invariant-loop-i l = Going (radix_bits l.radix) l.digits l.initial.out (record { at = l.initial.at; byte = l.initial.byte; missing = l.initial.missing }) l.out (record { at = l.at; byte = l.byte; missing = l.missing }) l.i

abbrev pub decreases-loop-i : goal.decreases-loop-i
decreases-loop-i l = length l.digits - l.i
