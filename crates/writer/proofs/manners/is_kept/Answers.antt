-- `writer::manners::is_kept` meets its contract. Assumes nothing.
use mathlib.Core.Path.{refl}
use Rattle.writer.specs.Manners.{keeps}
use Rattle.writer.proofs.manners.is_kept.Goals as goal

pub returns : goal.returns
unfolding keeps
returns c = refl
