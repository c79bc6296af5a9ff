-- `leaves::blocks::past_blocks` meets its contract. Assumes nothing.
use Rattle.std.proofs.Common.{ℕ, ◌+◌, ◌*◌, ◌/◌, ◌<◌, ◌≤◌, length, drop, ap, ◌∙◌, sym, arith}
use Rattle.leaves.specs.Blocks.{passes}
use Rattle.leaves.proofs.Chunks.{chunk_passes, chunk_room, before_more}
use Rattle.leaves.proofs.blocks.past_blocks.Goals as goal

pub loop-block-preserved : goal.loop-block-preserved
loop-block-preserved g c =
    let l : c.loop-block.block-index < length c.args.text.now / g.row.N = omega (arith, c.as_chunks.ensures.front_len) in
    let r : c.loop-block.block-index * g.row.N + g.row.N ≤ length c.args.text.now = chunk_room g.row.N c.loop-block.block-index (length c.args.text.now) c.requires.0 l in
    let e = chunk_passes (g.T.ByteTest.takes c.args.test.now) g.row.N c.loop-block.block-index c.args.text.now c.as_chunks.result.0.now c.block-item.result c.is_block.result c.as_chunks.ensures.front l c.block-item.is c.is_block.ensures in (
      before_more (g.T.ByteTest.takes c.args.test.now) c.args.text.now c.loop-block.past g.row.N c.loop-block.invariant.0 (omega (arith, r, c.loop-block.invariant.1)) c.is_block.result
          (e ∙ ap (λ (i : ℕ). passes (g.T.ByteTest.takes c.args.test.now) g.row.N (drop i c.args.text.now)) (sym c.loop-block.invariant.1)) c.if-not-is_block.false,
      omega (arith, c.loop-block.invariant.1),
    )
