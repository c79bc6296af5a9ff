-- `strings::quick::read_quick` meets its contract. Assumes nothing.
use native.Mathlib.Omega.{arith}
use mathlib.Core.Path.{sym}
use lib.Seq.{length-take-le}
use Rattle.strings.proofs.Lending.{place_fits}
use Rattle.strings.proofs.QuickAnswers.{counted_some, counted_held, counted_fits, quick_borrowed, quick_lacks, quick_put, quick_again, quick_left}
use Rattle.strings.proofs.quick.read_quick.Goals as goal

pub overflow_sub-until : goal.overflow_sub-until
overflow_sub-until c = search counted_some

pub returns-then-driven : goal.returns-then-driven
returns-then-driven c = search quick_borrowed

pub overflow_add-needed : goal.overflow_add-needed
overflow_add-needed c = search (place_fits, counted_fits)

pub returns-then-out-needed : goal.returns-then-out-needed
returns-then-out-needed c = search quick_lacks

pub slice_bounds-chunk-end : goal.slice_bounds-chunk-end
slice_bounds-chunk-end c = search counted_held

pub slice_bounds-put_bytes-end : goal.slice_bounds-put_bytes-end
slice_bounds-put_bytes-end c = sym (length-take-le _ _ (search counted_held))

pub returns-then-driven-eq0 : goal.returns-then-driven-eq0
returns-then-driven-eq0 c = search quick_put

pub slice_bounds-write_again-end-3 : goal.slice_bounds-write_again-end-3
slice_bounds-write_again-end-3 c = sym (length-take-le _ _ (omega arith))

pub returns-then-write_again : goal.returns-then-write_again
returns-then-write_again c = search quick_again

pub returns : goal.returns
returns c = search quick_left
