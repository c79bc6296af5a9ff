-- `doubles::newest_same` meets its contract. The loop's invariant: the newest row with the key is not behind the link, and the link is to a row of the bucket
-- or 0 (`Searching`). The measure is the link. Assumes nothing.
use Rattle.doubles.proofs.Searching.{Searching}
use Rattle.doubles.proofs.newest_same.Given as goal

abbrev pub invariant-loop-at : goal.invariant-loop-at
invariant-loop-at l = Searching l.store l.ends l.older l.row l.newest l.link

abbrev pub decreases-loop-at : goal.decreases-loop-at
decreases-loop-at l = l.link
