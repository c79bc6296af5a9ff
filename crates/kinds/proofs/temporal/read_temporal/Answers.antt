-- `kinds::temporal::read_temporal` meets its contract: the token is a part of the text, and what is read of it is moved on to its place of the text.
-- Assumes nothing.
use native.Mathlib.Omega.{arith}
use Prim.Native.Nat.{◌+◌, ◌≤◌}
use lib.ListN.{length}
use borrow.Author.Rules.{rules}
use Rattle.laws.proofs.questions.Ranges.{Bounds}
use Rattle.kinds.proofs.Behind.{token_ordered, token_inside, borrowed_inside, refused_inside}
use Rattle.kinds.proofs.Behind.{temporal_borrowed, temporal_written, temporal_refused, temporal_short, temporal_nothing}
use Rattle.kinds.proofs.temporal.read_temporal.Goals as goal

pub slice_bounds-read_bytes-count : goal.slice_bounds-read_bytes-count
slice_bounds-read_bytes-count c = search token_ordered

pub slice_bounds-read_bytes-start : goal.slice_bounds-read_bytes-start
slice_bounds-read_bytes-start c = search token_ordered

pub slice_bounds-read_bytes-end : goal.slice_bounds-read_bytes-end
slice_bounds-read_bytes-end c = search token_inside

pub overflow_add-result : goal.overflow_add-result
overflow_add-result c = let e = rw c.in-Ok-Borrowed.field-0-is at c.in-Ok-Borrowed.is in let ranged_here : Bounds (length c.args.text.now)
    (c.in-Some.field-0.from + c.in-Ok-Borrowed.start)
    (c.in-Some.field-0.from + c.in-Ok-Borrowed.end) = search (borrowed_inside, e) in
    omega (arith, ranged_here.ordered, ranged_here.inside)

pub overflow_add-result-in-Ok-Borrowed : goal.overflow_add-result-in-Ok-Borrowed
overflow_add-result-in-Ok-Borrowed c = let e = rw c.in-Ok-Borrowed.field-0-is at c.in-Ok-Borrowed.is in let ranged_here : Bounds (length c.args.text.now)
    (c.in-Some.field-0.from + c.in-Ok-Borrowed.start)
    (c.in-Some.field-0.from + c.in-Ok-Borrowed.end) = search (borrowed_inside, e) in
    omega (arith, ranged_here.inside)

pub overflow_add-result-in-Err-At : goal.overflow_add-result-in-Err-At
overflow_add-result-in-Err-At c = let e = rw c.in-Err-At.field-0-is at c.in-Err-At.is in let placed_here : c.in-Some.field-0.from + c.in-Err-At.place
    ≤ length c.args.text.now = search (refused_inside, e) in
    omega (arith, placed_here)

pub returns-in-Ok-Borrowed : goal.returns-in-Ok-Borrowed
returns-in-Ok-Borrowed c = let e = rw c.in-Ok-Borrowed.field-0-is at c.in-Ok-Borrowed.is in search (temporal_borrowed, e)

pub returns-in-Ok-Written : goal.returns-in-Ok-Written
returns-in-Ok-Written c = let e = rw c.in-Ok-Written.field-0-is at c.in-Ok-Written.is in search (temporal_written, e)

pub returns-in-Err-At : goal.returns-in-Err-At
returns-in-Err-At c = let e = rw c.in-Err-At.field-0-is at c.in-Err-At.is in search (temporal_refused, e)

pub returns-in-Err-NoRoom : goal.returns-in-Err-NoRoom
returns-in-Err-NoRoom c = let e = rw c.in-Err-NoRoom.field-0-is at c.in-Err-NoRoom.is in search (temporal_short, e)

pub returns-in-None : goal.returns-in-None
returns-in-None c = search temporal_nothing
