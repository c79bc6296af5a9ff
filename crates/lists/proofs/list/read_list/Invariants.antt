-- `lists::list::read_list` keeps to the window. The loop's invariant: the unfinished line lies within it. Assumes nothing.
use Rattle.std.proofs.Common.{◌≤◌, length}
use Rattle.lists.proofs.list.read_list.Given as goal

abbrev pub invariant-loop : goal.invariant-loop
invariant-loop l = l.left.unfinished ≤ length l.window
