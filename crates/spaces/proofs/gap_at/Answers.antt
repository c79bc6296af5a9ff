-- `spaces::gap_at` meets its contract. The loop's invariant: what lies between the place and i is white space, walked to its end. The
-- measure is what is left of the length. Assumes nothing.
use Prim.Native.Nat.{◌+◌, ◌≤◌}
use native.Mathlib.Omega.{arith}
use lib.ListN.{length}
use Rattle.spaces.proofs.Spacing.{spacing_start, spacing_room, spacing_stop, spacing_on, spacing_end, blank_on}
use Rattle.spaces.proofs.gap_at.Goals as goal

pub loop-i-init : goal.loop-i-init
loop-i-init c = search spacing_start

pub loop-i-preserved-then-is_blank : goal.loop-i-preserved-then-is_blank
loop-i-preserved-then-is_blank c = search blank_on

pub returns-then-size-eq0 : goal.returns-then-size-eq0
returns-then-size-eq0 c = search spacing_stop

pub overflow_add-i-else-is_blank : goal.overflow_add-i-else-is_blank
overflow_add-i-else-is_blank c = let room_here : c.loop-i.i + c.space_at-size.result ≤ length c.args.text.now = search spacing_room in
    omega (arith, room_here)

pub loop-i-smaller : goal.loop-i-smaller
loop-i-smaller c = let room_here : c.loop-i.i + c.space_at-size.result ≤ length c.args.text.now = search spacing_room in
    omega (arith, room_here)

pub loop-i-preserved : goal.loop-i-preserved
loop-i-preserved c = search spacing_on

pub returns : goal.returns
returns c = search spacing_end
