-- `doubles::take_row` meets its contract: the row's bucket is one of the heads, and the row that its head names is the newest before it in the bucket.
-- Assumes nothing.
use borrow.Author.Rules.{scaled_Fits}
use Rattle.std.proofs.Common.{arith}
use Rattle.doubles.proofs.OneRow.{taking_inside, taking_linked, taking_took, counted_fits, counted_same, before_le}
use Rattle.doubles.proofs.take_row.Goals as goal

pub offset_bounds-heads-bucket : goal.offset_bounds-heads-bucket
offset_bounds-heads-bucket c = search (scaled_Fits, taking_inside)

pub bounds-heads-bucket : goal.bounds-heads-bucket
bounds-heads-bucket c = search taking_inside

pub newest_same-requires : goal.newest_same-requires
newest_same-requires c = search taking_linked

pub counted-requires : goal.counted-requires
counted-requires c = counted_fits _ _ _ c.newest_same.ensures (before_le _ _ _) (omega arith)

pub offset_bounds-heads-bucket-2 : goal.offset_bounds-heads-bucket-2
offset_bounds-heads-bucket-2 c = search (scaled_Fits, taking_inside)

pub bounds-heads-bucket-2 : goal.bounds-heads-bucket-2
bounds-heads-bucket-2 c = search taking_inside

pub returns : goal.returns
returns c = search (taking_took, counted_same _ _ _ c.newest_same.ensures c.counted.ensures)
