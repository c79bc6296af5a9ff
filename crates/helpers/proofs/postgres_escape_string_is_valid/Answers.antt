-- `helpers::postgres_escape_string_is_valid` meets its contract. Assumes nothing.
use Prim.Native.Nat.{◌-◌}
use native.Mathlib.Omega.{arith}
use lib.ListN.{length}
use Rattle.laws.proofs.questions.Ranges.{Bounds}
use Rattle.helpers.proofs.Validity.{escape_outside, escape_within, escape_body}
use Rattle.helpers.proofs.postgres_escape_string_is_valid.Goals as goal

pub overflow_sub-until : goal.overflow_sub-until
overflow_sub-until c = let body_here : (let t = c.args.text.now in Bounds (length t) 2 (length t - 1)) = search escape_within in
    omega (arith, body_here.ordered)

pub slice_bounds-is_readable-count : goal.slice_bounds-is_readable-count
slice_bounds-is_readable-count c = let body_here : (let t = c.args.text.now in Bounds (length t) 2 (length t - 1)) = search escape_within in
    body_here.ordered

pub slice_bounds-is_readable-start : goal.slice_bounds-is_readable-start
slice_bounds-is_readable-start c = let body_here : (let t = c.args.text.now in Bounds (length t) 2 (length t - 1)) = search escape_within in
    omega (arith, body_here.ordered)

pub returns-then-not-first-is_enclosed : goal.returns-then-not-first-is_enclosed
returns-then-not-first-is_enclosed c = search escape_outside

pub returns : goal.returns
returns c = search escape_body
