-- `leaves::names::is_dollar_tag_continue` meets its contract. The code is the definition, by what the callee and std ensure. Assumes nothing.
use Rattle.meaning.specs.Bytes.{within, is_decimal, in_tag}
use Rattle.leaves.proofs.names.is_dollar_tag_continue.Goals as goal

pub returns : goal.returns
unfolding within is_decimal in_tag
returns c = rw (c.is_dollar_tag_start.ensures, c.is_ascii_digit.ensures.value)
