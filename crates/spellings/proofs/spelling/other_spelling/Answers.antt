-- `spellings::spelling::other_spelling` meets its contract. Each way out has its law, by the tests before it. Assumes nothing.
use Rattle.spellings.proofs.Spelt.{other_introduced, other_unicode, other_dollar}
use Rattle.spellings.proofs.spelling.other_spelling.Goals as goal

pub returns-then-byte_at-eq95 : goal.returns-then-byte_at-eq95
returns-then-byte_at-eq95 c = search other_introduced

pub returns-then-is_unicode_lexeme : goal.returns-then-is_unicode_lexeme
returns-then-is_unicode_lexeme c = search other_unicode

pub returns : goal.returns
returns c = search other_dollar
