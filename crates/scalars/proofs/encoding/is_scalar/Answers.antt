-- `scalars::encoding::is_scalar` meets its contract. The code is the definition. Assumes nothing.
use mathlib.Core.Path.{refl}
use Rattle.meaning.specs.Bytes.{within}
use Rattle.meaning.specs.Chars.{is_scalar}
use Rattle.scalars.proofs.encoding.is_scalar.Goals as goal

pub returns : goal.returns
unfolding within is_scalar
returns c = refl
