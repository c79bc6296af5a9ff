-- `utf8::check::utf8_from` meets its contract. The loop's invariant: the bytes that are left, pushed from the state at hand, lead to the state that all bytes
-- lead to. The measure is what is left of the length. Assumes nothing.
use Rattle.utf8.proofs.Pushing.{pushing_start, pushing_on, pushing_end}
use Rattle.utf8.proofs.check.utf8_from.Goals as goal

pub loop-byte-init : goal.loop-byte-init
loop-byte-init c = search pushing_start

pub loop-byte-preserved : goal.loop-byte-preserved
loop-byte-preserved c = search pushing_on

pub returns : goal.returns
returns c = search pushing_end
