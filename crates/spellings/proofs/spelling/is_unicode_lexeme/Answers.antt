-- `spellings::spelling::is_unicode_lexeme` meets its contract. The code asks what the definition asks, in its order. Assumes nothing.
use Rattle.spellings.proofs.Unicodes.{unicode_by_lem}
use Rattle.spellings.proofs.spelling.is_unicode_lexeme.Goals as goal

pub returns : goal.returns
returns c = search unicode_by_lem
