-- `questions::packing::bits_per` meets its contract. Assumes nothing.
use Rattle.questions.proofs.Packed.{per_binary, per_hex}
use Rattle.questions.proofs.packing.bits_per.Goals as goal

pub returns-then-base-eq2 : goal.returns-then-base-eq2
returns-then-base-eq2 c = search per_binary

pub returns : goal.returns
returns c = search per_hex
