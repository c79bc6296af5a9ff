-- `admitting::tests::test_source` meets its contract. Assumes nothing.
use borrow.Author.Rules.{rules}
use Rattle.admitting.proofs.Passing.{unplaced, ordered, inside, undecoded, passed}
use Rattle.admitting.proofs.tests.test_source.Goals as goal

pub returns-then-not-is_placed : goal.returns-then-not-is_placed
returns-then-not-is_placed c = search unplaced

pub slice_bounds-is_utf8-count : goal.slice_bounds-is_utf8-count
slice_bounds-is_utf8-count c = search ordered

pub slice_bounds-is_utf8-start : goal.slice_bounds-is_utf8-start
slice_bounds-is_utf8-start c = search ordered

pub slice_bounds-is_utf8-end : goal.slice_bounds-is_utf8-end
slice_bounds-is_utf8-end c = search inside

pub returns-then-not-is_utf8 : goal.returns-then-not-is_utf8
returns-then-not-is_utf8 c = search undecoded

pub returns : goal.returns
returns c = search passed
