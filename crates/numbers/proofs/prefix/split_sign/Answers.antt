-- `numbers::prefix::split_sign` meets its contract. An empty text has no first byte. Assumes nothing.
use Rattle.numbers.proofs.Prefixes.{sign_none, sign_there, sign_other}
use Rattle.numbers.proofs.prefix.split_sign.Goals as goal

pub returns-then-text-eq0 : goal.returns-then-text-eq0
returns-then-text-eq0 c = sign_none _ c.if-text-eq0.true

pub returns-then-minus-text : goal.returns-then-minus-text
returns-then-minus-text c = sign_there _ c.if-minus-text.true

pub returns : goal.returns
returns c = sign_other _ c.if-minus-text.false
