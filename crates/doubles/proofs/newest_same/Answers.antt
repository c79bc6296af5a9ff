-- `doubles::newest_same` meets its contract. Assumes nothing.
use Rattle.std.proofs.Common.{arith, ◌≡◌, suc}
use Rattle.doubles.proofs.Searching.{searching_first, searching_less, searching_turn, searching_found}
use Rattle.doubles.proofs.newest_same.Goals as goal

pub loop-at-init : goal.loop-at-init
loop-at-init c = search searching_first

pub returns-then-same : goal.returns-then-same
returns-then-same c = let e : c.loop-at.link ≡ suc c.in-Some.at = omega (arith, c.in-Some.ensures) in search (searching_found, e)

pub loop-at-smaller : goal.loop-at-smaller
loop-at-smaller c = let e : c.loop-at.link ≡ suc c.in-Some.at = omega (arith, c.in-Some.ensures) in search (searching_less, e)

pub loop-at-preserved : goal.loop-at-preserved
loop-at-preserved c = let e : c.loop-at.link ≡ suc c.in-Some.at = omega (arith, c.in-Some.ensures) in search (searching_turn, e)
