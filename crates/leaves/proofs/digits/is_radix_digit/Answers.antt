-- `leaves::digits::is_radix_digit` meets its contract. The code is the definition, by what `hex_value` ensures. Assumes nothing.
use Rattle.leaves.proofs.digits.is_radix_digit.Goals as goal

pub returns : goal.returns
returns c = rw c.hex_value.ensures
