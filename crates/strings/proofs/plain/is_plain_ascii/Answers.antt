-- `strings::plain::is_plain_ascii` meets its contract. Two marks leave room for a body, and the scan of the body decides. Assumes nothing.
use native.Mathlib.Omega.{arith}
use Rattle.laws.proofs.basics.Enclosures.{enclosed_room}
use Rattle.strings.proofs.AsciiRows.{ascii_not, ascii_by}
use Rattle.std.proofs.Common.{ap, not}
use Rattle.strings.proofs.plain.is_plain_ascii.Goals as goal

pub slice_bounds-is_plain_run-count : goal.slice_bounds-is_plain_run-count
slice_bounds-is_plain_run-count c = let h = enclosed_room _ _ _ _ c.is_enclosed.ensures (ap not c.if-not-is_enclosed.false) in omega (arith, h)

pub slice_bounds-is_plain_run-start : goal.slice_bounds-is_plain_run-start
slice_bounds-is_plain_run-start c = let h = enclosed_room _ _ _ _ c.is_enclosed.ensures (ap not c.if-not-is_enclosed.false) in omega (arith, h)

pub returns-then-not-is_enclosed : goal.returns-then-not-is_enclosed
returns-then-not-is_enclosed c = search ascii_not

pub overflow_sub-end : goal.overflow_sub-end
overflow_sub-end c = let h = enclosed_room _ _ _ _ c.is_enclosed.ensures (ap not c.if-not-is_enclosed.false) in omega (arith, h)

pub returns : goal.returns
returns c = search ascii_by
