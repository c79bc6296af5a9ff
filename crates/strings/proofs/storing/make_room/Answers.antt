-- `strings::storing::make_room` meets its contract. Assumes nothing.
use mathlib.Core.Path.{sym}
use lib.Seq.{length-take-le}
use borrow.Author.Rules.{rules}
use Rattle.strings.proofs.Storages.{empties_not, empties_all}
use Rattle.strings.proofs.storing.make_room.Goals as goal

pub returns-then-n-le208 : goal.returns-then-n-le208
returns-then-n-le208 c = search empties_not

pub slice_bounds-put_behind-end : goal.slice_bounds-put_behind-end
slice_bounds-put_behind-end c = sym (length-take-le _ _ (search rules))

pub returns : goal.returns
returns c = search empties_all
