-- `kinds::temporal::quote_token` meets its contract, by what the callees say of the token's ends. Assumes nothing.
use Rattle.kinds.proofs.Tokens.{quote_none, quote_some}
use Rattle.kinds.proofs.temporal.quote_token.Goals as goal

pub returns-then-text-quote : goal.returns-then-text-quote
returns-then-text-quote c = search quote_none

pub returns : goal.returns
returns c = search quote_some
