-- `leaves::names::is_charset_name_byte` meets its contract. The code is the definition, by what std ensures. Assumes nothing.
use Rattle.meaning.specs.Bytes.{within, is_letter, is_decimal, in_name}
use Rattle.leaves.proofs.names.is_charset_name_byte.Goals as goal

pub returns : goal.returns
unfolding within is_letter is_decimal in_name
returns c = rw (c.is_ascii_alphabetic.ensures.value, c.is_ascii_digit.ensures.value)
