-- `strings::plain::is_plain` meets its contract. Two marks leave room for a body, and the scan of the body decides. Assumes nothing.
use native.Mathlib.Omega.{arith}
use Rattle.laws.proofs.basics.Enclosures.{enclosed_room}
use Rattle.strings.proofs.Plains.{plain_not, plain_by}
use Rattle.std.proofs.Common.{ap, not}
use Rattle.strings.proofs.plain.is_plain.Goals as goal

pub returns-then-not-is_enclosed : goal.returns-then-not-is_enclosed
returns-then-not-is_enclosed c = search plain_not

pub overflow_sub-until : goal.overflow_sub-until
overflow_sub-until c = let h = enclosed_room _ _ _ _ c.is_enclosed.ensures (ap not c.if-not-is_enclosed.false) in omega (arith, h)

pub slice_bounds-is_free-count : goal.slice_bounds-is_free-count
slice_bounds-is_free-count c = let h = enclosed_room _ _ _ _ c.is_enclosed.ensures (ap not c.if-not-is_enclosed.false) in omega (arith, h)

pub slice_bounds-is_free-start : goal.slice_bounds-is_free-start
slice_bounds-is_free-start c = let h = enclosed_room _ _ _ _ c.is_enclosed.ensures (ap not c.if-not-is_enclosed.false) in omega (arith, h)

pub returns : goal.returns
returns c = search plain_by
