-- `utf8::places::second_low` meets its contract. The code is the definition. Assumes nothing.
use Rattle.std.proofs.Common.{eq-eqb, ne_eqb}
use Rattle.utf8.specs.Places.{low_of}
use Rattle.utf8.proofs.places.second_low.Goals as goal

pub returns-then-first-eq224 : goal.returns-then-first-eq224
unfolding low_of
returns-then-first-eq224 c = rw (eq-eqb _ _ c.if-first-eq224.true)

pub returns-then-first-eq240 : goal.returns-then-first-eq240
unfolding low_of
returns-then-first-eq240 c = rw (ne_eqb _ _ c.if-first-eq224.false, eq-eqb _ _ c.if-first-eq240.true)

pub returns : goal.returns
unfolding low_of
returns c = rw (ne_eqb _ _ c.if-first-eq224.false, ne_eqb _ _ c.if-first-eq240.false)
