-- `spellings::spelling::dollar_quoted` meets its contract. Each way out has its law, by the opening delimiter and what stands at the end. Assumes nothing.
use Rattle.spellings.proofs.Dollars.{dollar_fits, dollar_equal, dollar_other}
use Rattle.spellings.proofs.spelling.dollar_quoted.Goals as goal

pub overflow_sub-close : goal.overflow_sub-close
overflow_sub-close c = search dollar_fits

pub returns-then-starts_at : goal.returns-then-starts_at
returns-then-starts_at c = search dollar_equal

pub returns : goal.returns
returns c = search dollar_other
