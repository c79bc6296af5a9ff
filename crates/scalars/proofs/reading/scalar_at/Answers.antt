-- `scalars::reading::scalar_at` meets its contract. The loop's invariant: what the bytes still due make of the number so far is the number of the character
-- at the place, and the number is small. Assumes nothing.
use Prim.Native.Nat.{◌<◌}
use native.Mathlib.Omega.{arith}
use Rattle.scalars.proofs.Gathering.{gathering_none, gathering_start, gathering_low, gathering_short, gathering_on, gathering_whole}
use Rattle.scalars.proofs.Gathering.{gathering_broken}
use Rattle.scalars.proofs.reading.scalar_at.Goals.{else-loop-place-test, then-loop-place-test+then-not-is_due}
use Rattle.scalars.proofs.reading.scalar_at.Goals as goal

pub returns-then-text-at : goal.returns-then-text-at
returns-then-text-at c = search gathering_none

pub loop-place-init : goal.loop-place-init
loop-place-init c = search gathering_start

pub overflow_mul-number : goal.overflow_mul-number
overflow_mul-number c = let low_here : c.loop-place.number < 0x8000 = search gathering_low in
    omega (arith, low_here)

pub overflow_add-number : goal.overflow_add-number
overflow_add-number c = let low_here : c.loop-place.number < 0x8000 = search gathering_low in
    omega (arith, low_here)

pub loop-place-preserved : goal.loop-place-preserved
loop-place-preserved c = search gathering_on

pub returns-then-is_whole : goal.returns-then-is_whole
returns-then-is_whole c = search gathering_whole

pub returns : goal.returns
returns c =
    elim c.loop-place-test.branch [
      | else-loop-place-test w ↦ gathering_short c.loop-place.invariant c.is_whole.ensures c.if-is_whole.false w.loop-place-test.false
      | then-loop-place-test+then-not-is_due w ↦ gathering_broken c.loop-place.invariant c.is_whole.ensures c.if-is_whole.false w.is_due.ensures w.if-not-is_due.true
    ]
