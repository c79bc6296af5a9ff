-- `questions::dates::quick_date` meets its contract: a day is told where the text is words and ten bytes between quote marks. Assumes nothing.
use Rattle.questions.proofs.Quickly.{words_cut, quick_none, quick_day}
use borrow.Author.Rules.{rules}
use Rattle.questions.proofs.dates.quick_date.Goals as goal

pub returns-then-text-lt12 : goal.returns-then-text-lt12
returns-then-text-lt12 c = search quick_none

pub returns-then-text-at : goal.returns-then-text-at
returns-then-text-at c = search quick_none

pub slice_bounds-ends_in_e-end : goal.slice_bounds-ends_in_e-end
slice_bounds-ends_in_e-end c = search words_cut

pub returns-then-ends_in_e-first_mark : goal.returns-then-ends_in_e-first_mark
returns-then-ends_in_e-first_mark c = search quick_none

pub returns : goal.returns
returns c = search quick_day
