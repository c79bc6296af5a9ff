-- `strings::ident::read_lexeme` meets its contract. Each way out has its law, by the spelling. Assumes nothing.
use Rattle.strings.proofs.Bodies.{lexeme_inside, lexeme_body, lexeme_other}
use Rattle.strings.proofs.ident.read_lexeme.Goals as goal

pub read_body-requires : goal.read_body-requires
read_body-requires c = search lexeme_inside

pub returns-in-Body : goal.returns-in-Body
returns-in-Body c = search lexeme_body

pub returns-in_default : goal.returns-in_default
returns-in_default c = search lexeme_other
