-- `spellings::spelling::unicode_lexeme` meets its contract. Each way out has its law, by where the body closes and what follows the mark. Assumes nothing.
use mathlib.Core.Path.{ap, ◌∙◌}
use Rattle.std.specs.Prelude.{Ok}
use Prim.Native.Nat.{◌+◌, ◌<◌}
use native.Mathlib.Omega.{arith}
use lib.ListN.{length}
use Rattle.spellings.proofs.Unicodes.{unicode_not, unicode_room, unicode_unclosed, unicode_inside, unicode_default, unicode_chosen, unicode_bad}
use Rattle.spellings.proofs.spelling.unicode_lexeme.Goals as goal

pub overflow_add-until : goal.overflow_add-until
overflow_add-until c = let lies_here : 3 + c.in-Some.place < length c.args.text.now = search unicode_inside in
    omega (arith, lies_here)

pub overflow_add-until-2 : goal.overflow_add-until-2
overflow_add-until-2 c = let lies_here : 3 + c.in-Some.place < length c.args.text.now = search unicode_inside in
    omega (arith, lies_here)

pub returns-then-not-is_unicode_lexeme : goal.returns-then-not-is_unicode_lexeme
returns-then-not-is_unicode_lexeme c = search unicode_not

pub slice_bounds-closing_mark-count : goal.slice_bounds-closing_mark-count
slice_bounds-closing_mark-count c = search unicode_room

pub slice_bounds-closing_mark-start : goal.slice_bounds-closing_mark-start
slice_bounds-closing_mark-start c = search unicode_room

pub returns-in-Ok-None : goal.returns-in-Ok-None
returns-in-Ok-None c = search (unicode_default, c.in-Ok-None.is ∙ ap Ok c.in-Ok-None.field-0-is)

pub returns-in-Ok-Some : goal.returns-in-Ok-Some
returns-in-Ok-Some c = search (unicode_chosen, c.in-Ok-Some.is ∙ ap Ok c.in-Ok-Some.field-0-is)

pub returns-in-Err : goal.returns-in-Err
returns-in-Err c = search unicode_bad

pub returns-in_default : goal.returns-in_default
returns-in_default c = search unicode_unclosed
