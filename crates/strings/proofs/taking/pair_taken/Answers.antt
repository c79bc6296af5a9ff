-- `strings::taking::pair_taken` meets its contract: each way out has its law. Assumes nothing.
use native.Mathlib.Omega.{arith}
use Rattle.strings.proofs.TakenUnits.{pairs_none, pairs_put, low_bounds}
use Rattle.strings.proofs.taking.pair_taken.Goals as goal

pub overflow_sub-low : goal.overflow_sub-low
overflow_sub-low c = (low_bounds c.byte_at.result c.four_at-low.result c.if-byte_at-low.true).0

pub overflow_add-high-then-byte_at-low : goal.overflow_add-high-then-byte_at-low
overflow_add-high-then-byte_at-low c = omega (arith, low_bounds c.byte_at.result c.four_at-low.result c.if-byte_at-low.true)

pub returns-then-byte_at-low : goal.returns-then-byte_at-low
returns-then-byte_at-low c = search pairs_put

pub returns : goal.returns
returns c = pairs_none _ _ _ c.none.ensures
