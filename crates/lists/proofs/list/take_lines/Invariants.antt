-- `lists::list::take_lines` keeps to the text. The loop's invariant: what is left is no longer than the text. The measure is what is left. Assumes nothing.
use Rattle.std.proofs.Common.{◌≤◌, length}
use Rattle.lists.proofs.list.take_lines.Given as goal

abbrev pub invariant-loop-line : goal.invariant-loop-line
invariant-loop-line l = length l.rest ≤ length l.text

abbrev pub decreases-loop-line : goal.decreases-loop-line
decreases-loop-line l = length l.rest
