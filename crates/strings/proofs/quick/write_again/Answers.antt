-- `strings::quick::write_again` meets its contract. Assumes nothing.
use mathlib.Core.Path.{sym}
use lib.Seq.{length-take-le}
use Rattle.strings.proofs.QuickAnswers.{again_not, again_few, again_all}
use Rattle.strings.proofs.quick.write_again.Goals as goal

pub slice_bounds-put_behind-end : goal.slice_bounds-put_behind-end
slice_bounds-put_behind-end c = search again_few

pub slice_bounds-put_behind-end-then-driven : goal.slice_bounds-put_behind-end-then-driven
slice_bounds-put_behind-end-then-driven c = sym (length-take-le _ _ (search again_few))

pub returns-then-driven : goal.returns-then-driven
returns-then-driven c = search again_all

pub returns-else-driven : goal.returns-else-driven
returns-else-driven c = search again_not
