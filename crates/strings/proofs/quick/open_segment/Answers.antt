-- `strings::quick::open_segment` meets its contract. Assumes nothing.
use Rattle.strings.proofs.Lending.{place_fits}
use Rattle.strings.proofs.Segmenting.{opening_room, opening_some, opens_none, opens_quote, opens_one, opens_letter}
use Rattle.strings.proofs.quick.open_segment.Goals as goal

pub returns-then-first-eq39 : goal.returns-then-first-eq39
returns-then-first-eq39 c = search opens_quote

pub returns-then-byte_at-is_string_letter : goal.returns-then-byte_at-is_string_letter
returns-then-byte_at-is_string_letter c = search opens_letter

pub returns-then-len-is_bits : goal.returns-then-len-is_bits
returns-then-len-is_bits c = search opens_none

pub overflow_add-from : goal.overflow_add-from
overflow_add-from c = search (place_fits, opening_room)

pub overflow_sub-from : goal.overflow_sub-from
overflow_sub-from c = opening_some _ _ _ c.if-len-is_bits.false

pub returns : goal.returns
returns c = search opens_one
