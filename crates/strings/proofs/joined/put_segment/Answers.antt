-- `strings::joined::put_segment` meets its contract: a part of the text that was read lies in it. Assumes nothing.
use Rattle.strings.proofs.Segments.{part_ordered, part_inside}
use Rattle.strings.proofs.joined.put_segment.Goals as goal

pub slice_bounds-put_bytes-count : goal.slice_bounds-put_bytes-count
slice_bounds-put_bytes-count c = let e = rw c.in-Ok-Borrowed.field-0-is at c.in-Ok-Borrowed.is in search (part_ordered, e)

pub slice_bounds-put_bytes-start : goal.slice_bounds-put_bytes-start
slice_bounds-put_bytes-start c = let e = rw c.in-Ok-Borrowed.field-0-is at c.in-Ok-Borrowed.is in search (part_ordered, e)

pub slice_bounds-put_bytes-end : goal.slice_bounds-put_bytes-end
slice_bounds-put_bytes-end c = let e = rw c.in-Ok-Borrowed.field-0-is at c.in-Ok-Borrowed.is in search (part_inside, e)

pub overflow_sub-result : goal.overflow_sub-result
overflow_sub-result c = let e = rw c.in-Ok-Borrowed.field-0-is at c.in-Ok-Borrowed.is in search (part_ordered, e)
