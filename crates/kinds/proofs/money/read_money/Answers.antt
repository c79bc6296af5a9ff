-- `kinds::money::read_money` meets its contract, by the text's first byte. Assumes nothing.
use Rattle.kinds.proofs.Tokens.{money_sign, money_none}
use Rattle.kinds.proofs.money.read_money.Goals as goal

pub returns-then-byte_at-eq36 : goal.returns-then-byte_at-eq36
returns-then-byte_at-eq36 c = search money_sign

pub returns : goal.returns
returns c = search money_none
