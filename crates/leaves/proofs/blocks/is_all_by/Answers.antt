-- `leaves::blocks::is_all_by` meets its contract. Assumes nothing.
use Rattle.std.proofs.Common.{◌≡◌, ℕ, ◌+◌, ◌-◌, ◌*◌, length, take, ap, ◌∙◌, not, sym, subst, arith, length-take-le}
use Rattle.leaves.specs.Blocks.{passes}
use Rattle.leaves.proofs.Scans.{Before, before_none, block_passes, block_fails, block_last}
use Rattle.leaves.proofs.Chunks.{front_passes, chunk_end}
use Rattle.leaves.proofs.blocks.is_all_by.Goals as goal

pub loop-block-init : goal.loop-block-init
loop-block-init g c = let z : 0 * g.row.N ≡ 0 = omega arith in subst (λ (i : ℕ). Before (g.T.ByteTest.takes c.args.test.now) c.args.text.now i) (sym z) (before_none _ _)

pub returns-then-not-is_block : goal.returns-then-not-is_block
returns-then-not-is_block g c =
    let f = front_passes (g.T.ByteTest.takes c.args.test.now) g.row.N c.loop-block.block-index _ c.args.text.now
    c.as_chunks.result.0.now c.block-item.result c.is_block.result (omega arith) c.requires.0 c.as_chunks.ensures.front
    (omega (arith, c.as_chunks.ensures.front_len)) c.block-item.is c.is_block.ensures in
    block_fails c.loop-block.invariant g.row.N c.requires.1 c.is_block.result (omega (arith, f.0, c.requires)) f.1 (ap not c.if-not-is_block.true)

pub loop-block-preserved : goal.loop-block-preserved
loop-block-preserved g c =
    let f = front_passes (g.T.ByteTest.takes c.args.test.now) g.row.N c.loop-block.block-index _ c.args.text.now
    c.as_chunks.result.0.now c.block-item.result c.is_block.result (omega arith) c.requires.0 c.as_chunks.ensures.front
    (omega (arith, c.as_chunks.ensures.front_len)) c.block-item.is c.is_block.ensures in
    let z : c.loop-block.block-index * g.row.N + g.row.N ≡ (c.loop-block.block-index + 1) * g.row.N = omega arith in
    subst (λ (i : ℕ). Before (g.T.ByteTest.takes c.args.test.now) c.args.text.now i) z
    (block_passes c.loop-block.invariant g.row.N c.requires.1 c.is_block.result (omega (arith, f.0, c.requires)) f.1 (ap not c.if-not-is_block.false))

pub returns-in-Some : goal.returns-in-Some
returns-in-Some g c =
    let w : length (take (length c.args.text.now - 1) c.args.text.now) ≡ length c.args.text.now - 1 = length-take-le _ _ (omega arith) in
    let l = chunk_end g.row.N c.loop-block.block-index (length (take (length c.args.text.now - 1) c.args.text.now)) c.requires.0
    (omega (arith, c.as_chunks.ensures.front_len, c.loop-block-test.false)) in
    block_last c.loop-block.invariant g.row.N c.requires.1 c.is_block-in-Some.result (omega (arith, l, w))
    (c.is_block-in-Some.ensures ∙ ap (passes (g.T.ByteTest.takes c.args.test.now) g.row.N) c.in-Some.ensures.cases.1.same)

pub returns-in-None : goal.returns-in-None
returns-in-None g c = let h = c.in-None.ensures.cases in absurd (omega (arith, c.requires))
