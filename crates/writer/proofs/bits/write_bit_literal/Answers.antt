-- `writer::bits::write_bit_literal` meets its contract: nothing is written before all tests are passed and the text is measured. Assumes nothing.
use native.Mathlib.Omega.{arith}
use borrow.Author.Rules.{rules}
use Rattle.writer.proofs.BitTexts.{BitsAccepted, over_limit_lem, bad_bits_lem, bits_accepted, enough, few, no_room, literal_written}
use Rattle.writer.proofs.bits.write_bit_literal.Goals as goal

pub returns-then-is_over_limit : goal.returns-then-is_over_limit
returns-then-is_over_limit c = search over_limit_lem

pub returns-then-are_bad : goal.returns-then-are_bad
returns-then-are_bad c = search bad_bits_lem

pub overflow_add-len : goal.overflow_add-len
overflow_add-len c = let accepted_here : (let a = c.args in
    BitsAccepted a.radix a.bytes.now a.bits) = search bits_accepted in
    let h = few accepted_here c.digit_count-n.ensures in omega (arith, h)

pub returns-then-out-len : goal.returns-then-out-len
returns-then-out-len c = search (no_room, bits_accepted)

pub put_literal-requires : goal.put_literal-requires
put_literal-requires c = (search (enough, bits_accepted), search rules)

pub returns : goal.returns
returns c = search (literal_written, bits_accepted)
