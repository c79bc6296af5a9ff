-- `spellings::spelling::introduced` meets its contract. An opening ends in its mark, inside the text, which the text ends in too. Assumes nothing.
use Rattle.cutting.proofs.Cuts.{opened_inside}
use Rattle.spellings.proofs.Spelt.{introduced_none, introduced_open, introduced_quote, introduced_double}
use Rattle.spellings.proofs.spelling.introduced.Goals as goal

pub returns-then-open-eq0 : goal.returns-then-open-eq0
returns-then-open-eq0 c = search introduced_none

pub bounds-text-open : goal.bounds-text-open
bounds-text-open c = search opened_inside

pub returns-then-not-is_enclosed : goal.returns-then-not-is_enclosed
returns-then-not-is_enclosed c = search introduced_open

pub returns-then-quote-eq39 : goal.returns-then-quote-eq39
returns-then-quote-eq39 c = search introduced_quote

pub returns : goal.returns
returns c = search introduced_double
