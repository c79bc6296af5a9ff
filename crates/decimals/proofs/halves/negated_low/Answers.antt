-- `decimals::halves::negated_low` meets its contract. Assumes nothing.
use Rattle.std.proofs.Common.{arith}
use Rattle.meaning.specs.Halves.{negated_low}
use Rattle.decimals.proofs.halves.negated_low.Goals as goal

pub returns : goal.returns
unfolding negated_low
returns c = omega arith
