-- A run of bytes ends where its text does at the latest. Assumes nothing.
use Rattle.std.proofs.Common.{◌≡◌, ℕ, ◌+◌, ◌≤◌, Bool, List, length, drop, arith, length-drop}
use Rattle.meaning.specs.Bytes.{span}
use Rattle.leaves.proofs.RunSteps.{span_length}

pub run_within : (p : ℕ → Bool) (t : List ℕ) (at n : ℕ) → n ≡ span p (drop at t) → at ≤ length t → at + n ≤ length t
run_within p t at n e h = omega (arith, e, span_length p (drop at t), length-drop at t)
