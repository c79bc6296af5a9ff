-- `writer::literal::write_literal` meets its contract: nothing is written before all tests are passed and the text is measured. Assumes nothing.
use Prim.Native.Nat.{◌+◌, ◌*◌, ◌≤◌}
use native.Mathlib.Omega.{arith}
use Rattle.laws.proofs.writing.WriterParts.{Accepted}
use Rattle.meaning.specs.Writer.{write_question}
use Rattle.writer.proofs.Refusing.{over_limit_lem, not_utf8, holds_nul, all_passed}
use Rattle.writer.proofs.Answering.{accepted, spellable, cuttable, needed_small, no_room, text_fits, text_written}
use Rattle.writer.proofs.literal.write_literal.Goals as goal

pub returns-then-is_over_limit : goal.returns-then-is_over_limit
unfolding write_question
returns-then-is_over_limit c = search over_limit_lem

pub returns-then-not-is_utf8 : goal.returns-then-not-is_utf8
unfolding write_question
returns-then-not-is_utf8 c = search not_utf8

pub returns-then-holds_unwritable_nul : goal.returns-then-holds_unwritable_nul
unfolding write_question
returns-then-holds_unwritable_nul c = search holds_nul

pub measure-measured-requires : goal.measure-measured-requires
measure-measured-requires c = let passed_here : (let a = c.args in Accepted a.settings a.size a.value.now) = search (accepted, all_passed) in
    spellable passed_here

pub count_later-requires : goal.count_later-requires
count_later-requires c = let passed_here : (let a = c.args in Accepted a.settings a.size a.value.now) = search (accepted, all_passed) in
    cuttable passed_here c.part_limit-limit.ensures

pub overflow_mul-len : goal.overflow_mul-len
overflow_mul-len c = let small_here : c.measure-measured.result.len + 3 * c.count_later.result ≤ 858993461 = let passed_here : (let a = c.args in Accepted a.settings a.size a.value.now) = search (accepted, all_passed) in
    needed_small passed_here c.part_limit-limit.ensures c.measure-measured.ensures c.count_later.ensures in
    let h = small_here in omega (arith, h)

pub overflow_add-len : goal.overflow_add-len
overflow_add-len c = let small_here : c.measure-measured.result.len + 3 * c.count_later.result ≤ 858993461 = let passed_here : (let a = c.args in Accepted a.settings a.size a.value.now) = search (accepted, all_passed) in
    needed_small passed_here c.part_limit-limit.ensures c.measure-measured.ensures c.count_later.ensures in
    let h = small_here in omega (arith, h)

pub returns-then-out-len : goal.returns-then-out-len
returns-then-out-len c = let passed_here : (let a = c.args in Accepted a.settings a.size a.value.now) = search (accepted, all_passed) in
    no_room passed_here c.part_limit-limit.ensures c.measure-measured.ensures c.count_later.ensures _ c.if-out-len.true

pub write_parts-requires : goal.write_parts-requires
write_parts-requires c = let passed_here : (let a = c.args in Accepted a.settings a.size a.value.now) = search (accepted, all_passed) in
    text_fits passed_here c.part_limit-limit.ensures c.measure-measured.ensures c.count_later.ensures
    c.args.out.now c.if-out-len.false

pub returns : goal.returns
returns c = let passed_here : (let a = c.args in Accepted a.settings a.size a.value.now) = search (accepted, all_passed) in
    text_written passed_here c.part_limit-limit.ensures c.measure-measured.ensures c.count_later.ensures _ c.if-out-len.false
    c.write_parts.ensures
