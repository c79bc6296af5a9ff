-- `strings::taking::char_taken` meets its contract. The loop's invariant: n bytes are spelled by the first `at` of the text; each way out has its law. Assumes nothing.
use Rattle.strings.proofs.SpelledBytes.{Spelled}
use Rattle.strings.proofs.taking.char_taken.Given as goal

abbrev pub invariant-loop-n : goal.invariant-loop-n
invariant-loop-n l = Spelled l.text l.bytes l.tail l.at l.n
