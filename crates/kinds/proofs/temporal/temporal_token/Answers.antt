-- `kinds::temporal::temporal_token` meets its contract, by its first mark and the byte there. Assumes nothing.
use Rattle.kinds.proofs.Tokens.{token_dollar, token_quote}
use Rattle.kinds.proofs.temporal.temporal_token.Goals as goal

pub returns-then-byte_at-eq36 : goal.returns-then-byte_at-eq36
returns-then-byte_at-eq36 c = search token_dollar

pub returns : goal.returns
returns c = search token_quote
