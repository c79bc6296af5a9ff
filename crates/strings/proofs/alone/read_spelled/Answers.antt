-- `strings::alone::read_spelled` meets its contract. Each way out has its law, by the spelling. Assumes nothing.
use Rattle.strings.proofs.Bodies.{spelled_inside, spelled_body, spelled_dollar, spelled_not}
use Rattle.strings.proofs.alone.read_spelled.Goals as goal

pub read_body-requires : goal.read_body-requires
read_body-requires c = search spelled_inside

pub returns-in-Body : goal.returns-in-Body
returns-in-Body c = search spelled_body

pub returns-in-Dollar : goal.returns-in-Dollar
returns-in-Dollar c = search spelled_dollar

pub returns-in-Unspelt : goal.returns-in-Unspelt
returns-in-Unspelt c = search spelled_not
