-- `questions::packing::radix_by` meets its contract. Assumes nothing.
use Rattle.questions.proofs.Packed.{radix_binary, radix_hex}
use Rattle.questions.proofs.packing.radix_by.Goals as goal

pub returns-then-base-eq2 : goal.returns-then-base-eq2
returns-then-base-eq2 c = search radix_binary

pub returns : goal.returns
returns c = search radix_hex
