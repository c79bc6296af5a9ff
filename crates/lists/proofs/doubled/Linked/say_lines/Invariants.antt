-- `lists::doubled::Linked::say_lines` ends: each turn goes on to a later row. The measure is how many rows are left. Assumes nothing.
use Rattle.std.proofs.Common.{◌-◌, length}
use Rattle.lists.proofs.doubled.Linked.say_lines.Given as goal

abbrev pub decreases-loop-next : goal.decreases-loop-next
decreases-loop-next l = length l.self.after.now - l.at
