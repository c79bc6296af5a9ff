-- `writer::lengths::units_len` meets its contract. Assumes nothing.
use Rattle.std.proofs.Common.{◌≡◌, ℕ, ◌+◌, ◌*◌, ◌/◌, ◌<◌, [], length, drop, ap, ◌∙◌, sym, subst, arith}
use Rattle.leaves.proofs.Chunks.{chunk_at, chunk_room}
use Rattle.writer.specs.Manners.{costs_by}
use Rattle.writer.proofs.Measuring.{bytes_most, Adding, adding_start, adding_small, adding_on, adding_end}
use Rattle.writer.proofs.lengths.units_len.Goals as goal

pub loop-block-init : goal.loop-block-init
loop-block-init g c = search adding_start

pub overflow_add-len : goal.overflow_add-len
overflow_add-len g c =
    let l : c.loop-block.block-index < length c.args.value.now / 16 = omega (arith, c.as_chunks.ensures.front_len, c.loop-block-test.true) in
    let e = c.block_cost-len.ensures ∙ ap (costs_by (g.S.Spelling.manner c.args.spelling.now)) (chunk_at 16 c.loop-block.block-index c.args.value.now _ [] c.as_chunks.ensures.front l) in
    omega (arith, adding_small c.loop-block.invariant 16 _ e, c.requires)

pub loop-block-preserved : goal.loop-block-preserved
loop-block-preserved g c =
    let l : c.loop-block.block-index < length c.args.value.now / 16 = omega (arith, c.as_chunks.ensures.front_len, c.loop-block-test.true) in
    let e = c.block_cost-len.ensures ∙ ap (costs_by (g.S.Spelling.manner c.args.spelling.now)) (chunk_at 16 c.loop-block.block-index c.args.value.now _ [] c.as_chunks.ensures.front l) in
    let z : c.loop-block.block-index * 16 + 16 ≡ (c.loop-block.block-index + 1) * 16 = omega arith in
    subst (λ (i : ℕ). Adding (g.S.Spelling.manner c.args.spelling.now) c.args.value.now (c.loop-block.len + c.block_cost-len.result) i) z
    (adding_on c.loop-block.invariant (omega (arith, chunk_room 16 c.loop-block.block-index (length c.args.value.now) (omega arith) l)) _ e)

pub returns : goal.returns
returns g c =
    let z : c.loop-block.block-index ≡ length c.args.value.now / 16 =
    omega (arith, c.as_chunks.ensures.front_len, c.loop-block-test.false, c.loop-block.auto.block-index-end) in
    adding_end c.loop-block.invariant _
    (c.block_cost.ensures ∙ ap (costs_by (g.S.Spelling.manner c.args.spelling.now)) (c.as_chunks.ensures.back ∙ ap (λ (i : ℕ). drop (i * 16) c.args.value.now) (sym z)))

pub overflow_add-result : goal.overflow_add-result
overflow_add-result g c = omega (arith, returns g c, bytes_most (g.S.Spelling.manner c.args.spelling.now) c.args.value.now, c.requires)
