-- `spellings::spelling::string_spelling` meets its contract. Each way out has its law, by the tests before it. Assumes nothing.
use Rattle.spellings.proofs.Spelt.{spells_empty, spells_quote, spells_double, spells_escape, spells_national, spells_other}
use Rattle.spellings.proofs.spelling.string_spelling.Goals as goal

pub returns-then-text-eq0 : goal.returns-then-text-eq0
returns-then-text-eq0 c = search spells_empty

pub returns-then-is_enclosed : goal.returns-then-is_enclosed
returns-then-is_enclosed c = search spells_quote

pub returns-then-is_enclosed-2 : goal.returns-then-is_enclosed-2
returns-then-is_enclosed-2 c = search spells_double

pub returns-then-first-prefixed : goal.returns-then-first-prefixed
returns-then-first-prefixed c = search spells_escape

pub returns-then-first-prefixed-2 : goal.returns-then-first-prefixed-2
returns-then-first-prefixed-2 c = search spells_national

pub returns : goal.returns
returns c = search spells_other
