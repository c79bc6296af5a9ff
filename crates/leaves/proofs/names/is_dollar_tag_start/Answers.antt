-- `leaves::names::is_dollar_tag_start` meets its contract. The code is the definition, by what std ensures. Assumes nothing.
use Rattle.meaning.specs.Bytes.{within, is_letter, starts_tag}
use Rattle.leaves.proofs.names.is_dollar_tag_start.Goals as goal

pub returns : goal.returns
unfolding within is_letter starts_tag
returns c = rw c.is_ascii_alphabetic.ensures.value
