-- `numbers::radix::read_radix_digits` meets its contract. Assumes nothing.
use borrow.Author.Tests.{eq-eqb, ne_eqb}
use Rattle.numbers.specs.Values.{radix_by}
use Rattle.numbers.proofs.radix.read_radix_digits.Goals as goal

pub returns-then-base-eq16 : goal.returns-then-base-eq16
unfolding radix_by
returns-then-base-eq16 c = rw (eq-eqb _ _ c.if-base-eq16.true) c.read_halves.ensures

pub returns-then-base-eq8 : goal.returns-then-base-eq8
unfolding radix_by
returns-then-base-eq8 c = rw (ne_eqb _ _ c.if-base-eq16.false, eq-eqb _ _ c.if-base-eq8.true) c.read_halves-then-base-eq8.ensures

pub returns : goal.returns
unfolding radix_by
returns c = rw (ne_eqb _ _ c.if-base-eq16.false, ne_eqb _ _ c.if-base-eq8.false) c.read_halves-2.ensures
