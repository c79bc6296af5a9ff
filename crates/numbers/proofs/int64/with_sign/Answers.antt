-- `numbers::int64::with_sign` meets its contract. A minus allows one more; -1 - (m - 1) wraps at no place. Assumes nothing.
use Prim.Native.Nat.{◌-◌}
use native.Mathlib.Omega.{arith}
use Rattle.numbers.proofs.Signs.{less_fits, less_back, minus_value, minus_great, plus_value, plus_great}
use Rattle.numbers.proofs.int64.with_sign.Goals as goal

pub returns-then-magnitude-eq0 : goal.returns-then-magnitude-eq0
returns-then-magnitude-eq0 c = rw (c.if-minus.true, c.if-magnitude-eq0.true)

pub overflow_sub-result-then-magnitude-le9223372036854775808 : goal.overflow_sub-result-then-magnitude-le9223372036854775808
overflow_sub-result-then-magnitude-le9223372036854775808 c = less_fits (c.args.magnitude - 1) (omega arith)

pub returns-then-magnitude-le9223372036854775808 : goal.returns-then-magnitude-le9223372036854775808
returns-then-magnitude-le9223372036854775808 c = rw (c.if-minus.true, less_back (c.args.magnitude - 1) (omega arith))
    (minus_value c.args.magnitude c.if-magnitude-eq0.false (omega arith))

pub returns-then-minus : goal.returns-then-minus
returns-then-minus c = rw c.if-minus.true (minus_great c.args.magnitude (omega arith))

pub returns-then-magnitude-lt9223372036854775808 : goal.returns-then-magnitude-lt9223372036854775808
returns-then-magnitude-lt9223372036854775808 c = rw c.if-minus.false (plus_value c.args.magnitude (omega arith))

pub returns : goal.returns
returns c = rw c.if-minus.false (plus_great c.args.magnitude (omega arith))
