-- `cutting::cursor::Cursor::next` meets its contract. Each way out has its law, by what the first segment from the cursor is; its end and the white space
-- behind it lie inside the text, so no sum wraps. Assumes nothing.
use Prim.Native.Nat.{◌+◌, ◌≤◌}
use native.Mathlib.Omega.{arith}
use lib.ListN.{length}
use Rattle.cutting.proofs.Follows.{next_end, next_remainder, segment_inside, gap_inside, next_segment}
use Rattle.cutting.proofs.cursor.Cursor.next.Goals as goal

pub returns-then-text-at : goal.returns-then-text-at
returns-then-text-at c = search next_end

pub overflow_add-end : goal.overflow_add-end
overflow_add-end c = let end_inside_here : c.args.self.at + c.in-Some.segment.len
    ≤ length c.args.text.now = search segment_inside in
    omega (arith, end_inside_here)

pub overflow_add-result : goal.overflow_add-result
overflow_add-result c = let next_inside_here : c.args.self.at + c.in-Some.segment.len + c.gap_at.result
    ≤ length c.args.text.now = search gap_inside in
    omega (arith, next_inside_here)

pub returns : goal.returns
returns c = search next_segment

pub returns-in_default : goal.returns-in_default
returns-in_default c = search next_remainder
