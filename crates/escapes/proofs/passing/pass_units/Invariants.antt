-- `escapes::passing::pass_units` meets its contract. The loop's invariant, `Passing`: what the units so far stand for is counted, and written where there is
-- room. The measure is what is left of the body. Assumes nothing.
use Prim.Native.Nat.{◌-◌}
use lib.ListN.{length}
use Rattle.escapes.specs.Passing.{Passing}
use Rattle.escapes.proofs.passing.pass_units.Given as goal

abbrev pub invariant-loop-pass : goal.invariant-loop-pass
invariant-loop-pass g l = Passing (g.F.EscapeFamily.step l.family) (g.F.EscapeFamily.is_checked l.family) l.body l.initial.out l.out l.pass

abbrev pub decreases-loop-pass : goal.decreases-loop-pass
decreases-loop-pass g l = length l.body - l.pass.at
