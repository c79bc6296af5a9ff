-- `uescape::uescape_clause` meets its contract. Each way out has its law, by what stands behind the white space; the word has seven bytes, so the
-- argument's place lies inside the text. Assumes nothing.
use Prim.Native.Nat.{◌+◌, ◌≤◌}
use native.Mathlib.Omega.{arith}
use lib.ListN.{length}
use Rattle.uescape.proofs.Clausing.{gap_inside, clause_past, clause_end, clause_other, word_fits, clause_legal, clause_illegal}
use Rattle.uescape.proofs.uescape_clause.Goals as goal

pub returns-then-text-at : goal.returns-then-text-at
returns-then-text-at c = search clause_past

pub overflow_add-next : goal.overflow_add-next
overflow_add-next c = let spaced_here : c.args.at + c.gap_at.result ≤ length c.args.text.now = search gap_inside in
    omega (arith, spaced_here)

pub returns-then-text-next : goal.returns-then-text-next
returns-then-text-next c = search clause_end

pub returns-then-not-is_uescape_keyword : goal.returns-then-not-is_uescape_keyword
returns-then-not-is_uescape_keyword c = search clause_other

pub overflow_add-start : goal.overflow_add-start
overflow_add-start c = let inside_here : c.args.at + c.gap_at.result + 7 + c.gap_at-2.result ≤ length c.args.text.now = search word_fits in
    omega (arith, inside_here)

pub slice_bounds-uescape_argument-count : goal.slice_bounds-uescape_argument-count
slice_bounds-uescape_argument-count c = let inside_here : c.args.at + c.gap_at.result + 7 + c.gap_at-2.result ≤ length c.args.text.now = search word_fits in
    omega (arith, inside_here)

pub slice_bounds-uescape_argument-start : goal.slice_bounds-uescape_argument-start
slice_bounds-uescape_argument-start c = let inside_here : c.args.at + c.gap_at.result + 7 + c.gap_at-2.result ≤ length c.args.text.now = search word_fits in
    omega (arith, inside_here)

pub overflow_add-result : goal.overflow_add-result
overflow_add-result c = let inside_here : c.args.at + c.gap_at.result + 7 + c.gap_at-2.result ≤ length c.args.text.now = search word_fits in
    omega (arith, inside_here)

pub returns-in-Legal : goal.returns-in-Legal
returns-in-Legal c = search clause_legal

pub returns-in-Illegal : goal.returns-in-Illegal
returns-in-Illegal c = search clause_illegal
