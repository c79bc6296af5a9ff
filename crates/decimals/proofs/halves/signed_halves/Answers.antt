-- `decimals::halves::signed_halves` meets its contract. Assumes nothing.
use Rattle.decimals.proofs.Halving.{plus_held, plus_over, minus_held, minus_least, minus_over, minus_under}
use Rattle.decimals.proofs.halves.signed_halves.Goals as goal

pub returns-then-halves-lt9223372036854775808 : goal.returns-then-halves-lt9223372036854775808
returns-then-halves-lt9223372036854775808 c = rw c.if-minus.true (search minus_held)

pub returns-then-halves-ne9223372036854775808 : goal.returns-then-halves-ne9223372036854775808
returns-then-halves-ne9223372036854775808 c = rw c.if-minus.true (search minus_over)

pub returns-then-halves-ne0 : goal.returns-then-halves-ne0
returns-then-halves-ne0 c = rw c.if-minus.true (search minus_under)

pub returns-then-minus : goal.returns-then-minus
returns-then-minus c = rw c.if-minus.true (search minus_least)

pub returns-then-halves-ge9223372036854775808 : goal.returns-then-halves-ge9223372036854775808
returns-then-halves-ge9223372036854775808 c = rw c.if-minus.false (search plus_over)

pub returns : goal.returns
returns c = rw c.if-minus.false (search plus_held)
