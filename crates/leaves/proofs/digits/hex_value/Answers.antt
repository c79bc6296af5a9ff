-- `leaves::digits::hex_value` meets its contract, by what `loose_digit` ensures. Assumes nothing.
use Rattle.std.proofs.Common.{le-ltb, lt-ltb}
use Rattle.leaves.proofs.digits.hex_value.Goals as goal

pub returns-then-digit-lt16 : goal.returns-then-digit-lt16
returns-then-digit-lt16 c = rw (lt-ltb _ _ c.if-digit-lt16.true) at c.loose_digit-digit.ensures

pub returns : goal.returns
returns c = rw (le-ltb _ _ c.if-digit-lt16.false) at c.loose_digit-digit.ensures
