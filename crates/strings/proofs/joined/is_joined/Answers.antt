-- `strings::joined::is_joined` meets its contract: the byte behind the first segment and its gap decides. Assumes nothing.
use Rattle.strings.proofs.Lending.{place_fits}
use Rattle.strings.proofs.Cuts.{gap_inside, goes_on, goes_not_on}
use Rattle.strings.proofs.joined.is_joined.Goals as goal

pub overflow_add-len : goal.overflow_add-len
overflow_add-len c = search (place_fits, gap_inside)

pub returns-in-Some : goal.returns-in-Some
returns-in-Some c = search goes_on

pub returns-in-None : goal.returns-in-None
returns-in-None c = search goes_not_on
