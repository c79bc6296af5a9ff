-- `leaves::blocks::front_run` meets its contract. Assumes nothing.
use Rattle.std.proofs.Common.{◌≡◌, ◌∙◌, length, arith}
use Rattle.leaves.proofs.Scans.{before_none}
use Rattle.leaves.proofs.Chunks.{before_byte, before_stop, before_end}
use Rattle.leaves.proofs.blocks.front_run.Goals as goal

pub loop-place-init : goal.loop-place-init
loop-place-init g c = record { inside = c.past_blocks-place.ensures.0; pass = c.past_blocks-place.ensures.1 }

pub returns-then-not-takes : goal.returns-then-not-takes
returns-then-not-takes g c = before_stop (g.T.ByteTest.takes c.args.test.now) c.args.text.now 0 (before_none _ _) (omega arith) c.takes.result c.takes.ensures c.if-not-takes.true

pub returns-then-not-takes-2 : goal.returns-then-not-takes-2
returns-then-not-takes-2 g c =
    before_stop _ _ _ c.loop-place.invariant (omega arith) c.takes-in-loop-place.result c.takes-in-loop-place.ensures c.if-not-takes-2.true

pub loop-place-preserved : goal.loop-place-preserved
loop-place-preserved g c =
    before_byte _ _ _ c.loop-place.invariant (omega arith) c.takes-in-loop-place.result c.takes-in-loop-place.ensures c.if-not-takes-2.false

pub returns : goal.returns
returns g c =
    let e : length c.args.text.now ≡ c.loop-place.place = omega (arith, c.loop-place.invariant.inside) in
    e ∙ before_end _ _ _ c.loop-place.invariant (omega arith)
