-- `utf8::check::utf8_from` meets its contract. The loop's invariant: the bytes that are left, pushed from the state at hand, lead to the state that all bytes
-- lead to. The measure is what is left of the length. Assumes nothing.
use Rattle.utf8.specs.Tails.{due_of}
use Rattle.utf8.proofs.Pushing.{Pushing}
use Rattle.utf8.proofs.check.utf8_from.Given as goal

abbrev pub invariant-loop-byte : goal.invariant-loop-byte
invariant-loop-byte l = Pushing (due_of l.initial.state) l.bytes (due_of l.state) l.byte-index
