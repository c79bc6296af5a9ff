-- `doubles::key_at` meets its contract: it is the part of the store between the row's start and its end. Assumes nothing.
use Rattle.doubles.proofs.Keys.{key_part}
use Rattle.doubles.proofs.key_at.Goals as goal

pub returns : goal.returns
returns c = search key_part
