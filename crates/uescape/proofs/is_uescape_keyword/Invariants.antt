-- `uescape::is_uescape_keyword` meets its contract. The loop's invariant: the word's first bytes stand at `at` in upper case, and all of them have room
-- (`AlikeSoFar`). Assumes nothing.
use Rattle.meaning.specs.Spelling.{upper}
use Rattle.laws.proofs.basics.Alike.{AlikeSoFar}
use Rattle.uescape.proofs.is_uescape_keyword.Given as goal

abbrev pub invariant-loop-i : goal.invariant-loop-i
invariant-loop-i l = AlikeSoFar upper l.word l.text l.at l.i
