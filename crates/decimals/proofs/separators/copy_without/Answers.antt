-- `decimals::separators::copy_without` meets its contract. Assumes nothing.
use Rattle.decimals.proofs.Separating.{skip_start, skip_long, skip_apart, skip_room, skip_copy, skip_end}
use Rattle.decimals.proofs.separators.copy_without.Goals as goal
use Rattle.decimals.proofs.separators.copy_without.Goals.{then-byte-ne95, else-byte-ne95}

pub loop-byte-init : goal.loop-byte-init
loop-byte-init c = search skip_start

pub bounds-out-end : goal.bounds-out-end
bounds-out-end c = search skip_room

pub loop-byte-preserved : goal.loop-byte-preserved
loop-byte-preserved c = elim c.if-byte-ne95.branch [
  | then-byte-ne95 w ↦ rw (w.out-is, w.end-is) (search (skip_copy, w.if-byte-ne95))
  | else-byte-ne95 w ↦ rw (w.out-is, w.end-is) (search (skip_apart, w.if-byte-ne95))
]

pub shape_of-out : goal.shape_of-out
shape_of-out c = search skip_long

pub returns : goal.returns
returns c = search skip_end
