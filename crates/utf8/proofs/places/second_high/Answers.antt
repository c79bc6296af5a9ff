-- `utf8::places::second_high` meets its contract. The code is the definition. Assumes nothing.
use Rattle.std.proofs.Common.{eq-eqb, ne_eqb}
use Rattle.utf8.specs.Places.{high_of}
use Rattle.utf8.proofs.places.second_high.Goals as goal

pub returns-then-first-eq237 : goal.returns-then-first-eq237
unfolding high_of
returns-then-first-eq237 c = rw (eq-eqb _ _ c.if-first-eq237.true)

pub returns-then-first-eq244 : goal.returns-then-first-eq244
unfolding high_of
returns-then-first-eq244 c = rw (ne_eqb _ _ c.if-first-eq237.false, eq-eqb _ _ c.if-first-eq244.true)

pub returns : goal.returns
unfolding high_of
returns c = rw (ne_eqb _ _ c.if-first-eq237.false, ne_eqb _ _ c.if-first-eq244.false)
