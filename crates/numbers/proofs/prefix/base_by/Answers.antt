-- `numbers::prefix::base_by` meets its contract. The code asks the letters in the order of the definition. Assumes nothing.
use mathlib.Core.Bool.{or-false}
use Rattle.meaning.specs.Numbers.{base_by}
use Rattle.numbers.proofs.prefix.base_by.Goals as goal

pub returns-then-byte : goal.returns-then-byte
unfolding base_by
returns-then-byte c = simp (or-false, c.if-byte.true)

pub returns-then-byte-2 : goal.returns-then-byte-2
unfolding base_by
returns-then-byte-2 c = simp (or-false, c.if-byte.false, c.if-byte-2.true)

pub returns-then-byte-3 : goal.returns-then-byte-3
unfolding base_by
returns-then-byte-3 c = simp (or-false, c.if-byte.false, c.if-byte-2.false, c.if-byte-3.true)

pub returns : goal.returns
unfolding base_by
returns c = simp (or-false, c.if-byte.false, c.if-byte-2.false, c.if-byte-3.false)
