-- `strings::quick::close_segment` meets its contract. Assumes nothing.
use Rattle.strings.proofs.Lending.{place_fits}
use Rattle.strings.proofs.Segmenting.{next_room, closes_one, closes_none}
use Rattle.strings.proofs.quick.close_segment.Goals as goal

pub overflow_add-result : goal.overflow_add-result
overflow_add-result c = search (place_fits, next_room)

pub returns-in-Closed : goal.returns-in-Closed
returns-in-Closed c = search closes_one

pub returns : goal.returns
returns c = search closes_none
