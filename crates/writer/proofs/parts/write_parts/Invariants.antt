-- `writer::parts::write_parts` meets its contract. The loop's invariant, `Writing`: the literals of the parts before the one at hand are at the buffer's start,
-- each with the gap behind it, and behind them what it held. The measure is what is left of the value. Assumes nothing.
use Prim.Native.Nat.{◌-◌}
use lib.ListN.{length}
use Rattle.writer.proofs.PartWriting.{Writing}
use Rattle.writer.proofs.parts.write_parts.Given as goal

abbrev pub invariant-loop-end : goal.invariant-loop-end
invariant-loop-end l = Writing l.limit l.plain.backslash l.whole l.value l.initial.out l.out l.n l.from l.end

abbrev pub decreases-loop-end : goal.decreases-loop-end
decreases-loop-end l = length l.value - l.end
