-- `leaves::texts::string_literal_embeds_nul` meets its contract. A text that is not free of NUL holds one. Assumes nothing.
use Rattle.leaves.proofs.Scans.{nul_found}
use Rattle.leaves.proofs.texts.string_literal_embeds_nul.Goals as goal

pub returns : goal.returns
returns c = search nul_found
