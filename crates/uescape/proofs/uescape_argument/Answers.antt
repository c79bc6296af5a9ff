-- `uescape::uescape_argument` meets its contract. Between two quote marks stands a character as it is. Assumes nothing.
use Prim.Native.Nat.{◌<◌}
use lib.ListN.{length}
use native.Mathlib.Omega.{arith}
use Rattle.laws.proofs.basics.Enclosures.{enclosed_room}
use Rattle.uescape.proofs.Characters.{argument_bare, argument_legal, argument_illegal}
use Rattle.std.proofs.Common.{ap, not}
use Rattle.uescape.proofs.uescape_argument.Goals as goal

pub returns-then-not-is_enclosed : goal.returns-then-not-is_enclosed
returns-then-not-is_enclosed c = search argument_bare

pub overflow_sub-end : goal.overflow_sub-end
overflow_sub-end c = let room_here : 1 < length c.args.argument.now = enclosed_room _ 0 39 _ c.is_enclosed.ensures (ap not c.if-not-is_enclosed.false) in
    omega (arith, room_here)

pub slice_bounds-is_legal_uescape_char-count : goal.slice_bounds-is_legal_uescape_char-count
slice_bounds-is_legal_uescape_char-count c = let room_here : 1 < length c.args.argument.now = enclosed_room _ 0 39 _ c.is_enclosed.ensures (ap not c.if-not-is_enclosed.false) in
    omega (arith, room_here)

pub slice_bounds-is_legal_uescape_char-start : goal.slice_bounds-is_legal_uescape_char-start
slice_bounds-is_legal_uescape_char-start c = let room_here : 1 < length c.args.argument.now = enclosed_room _ 0 39 _ c.is_enclosed.ensures (ap not c.if-not-is_enclosed.false) in
    omega (arith, room_here)

pub returns-then-is_legal_uescape_char : goal.returns-then-is_legal_uescape_char
returns-then-is_legal_uescape_char c = search argument_legal

pub returns : goal.returns
returns c = search argument_illegal
