-- `cutting::openings::introducer_len` meets its contract. A name that is not empty lies inside the text, so no sum wraps. Assumes nothing.
use Prim.Native.Nat.{◌+◌, ◌≤◌}
use native.Mathlib.Omega.{arith}
use lib.ListN.{length}
use Rattle.meaning.specs.Bytes.{in_name}
use Rattle.leaves.proofs.RunSteps.{span_inside}
use Rattle.cutting.proofs.Names.{named_empty, named_marked, named_unmarked}
use Rattle.cutting.proofs.openings.introducer_len.Goals as goal

pub returns-then-n-eq0 : goal.returns-then-n-eq0
returns-then-n-eq0 c = search named_empty

pub overflow_add-at : goal.overflow_add-at
overflow_add-at c = let inside_here : c.args.at + c.run_len-n.result ≤ length c.args.text.now = span_inside in_name _ _ _ c.run_len-n.ensures c.if-n-eq0.false in
    omega (arith, inside_here)

pub overflow_add-result : goal.overflow_add-result
overflow_add-result c = let inside_here : c.args.at + c.run_len-n.result ≤ length c.args.text.now = span_inside in_name _ _ _ c.run_len-n.ensures c.if-n-eq0.false in
    omega (arith, inside_here)

pub returns-then-is_mark : goal.returns-then-is_mark
returns-then-is_mark c = search named_marked

pub returns : goal.returns
returns c = search named_unmarked
