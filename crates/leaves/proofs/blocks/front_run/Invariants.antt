-- `leaves::blocks::front_run` meets its contract. The invariant: all before pass. Assumes nothing.
use Rattle.leaves.proofs.Scans.{Before}
use Rattle.leaves.proofs.blocks.front_run.Given as goal

abbrev pub invariant-loop-place : goal.invariant-loop-place
invariant-loop-place g l = Before (g.T.ByteTest.takes l.test) l.text l.place
