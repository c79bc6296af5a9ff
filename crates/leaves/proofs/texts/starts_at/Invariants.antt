-- `leaves::texts::starts_at` meets its contract. The invariant: the bytes before are alike. Assumes nothing.
use Rattle.leaves.proofs.Starts.{FrontAlike}
use Rattle.leaves.proofs.texts.starts_at.Given as goal

abbrev pub invariant-loop-place : goal.invariant-loop-place
invariant-loop-place l = FrontAlike l.prefix l.text l.place
