-- `strings::chunks::take_behind` meets its contract: nothing behind the run that is read; a unit. Assumes nothing.
use Rattle.strings.proofs.Lending.{place_fits}
use Rattle.strings.proofs.ChunkTurns.{behind_none, unit_there, behind_unit}
use Rattle.strings.proofs.chunks.take_behind.Goals as goal

pub returns-then-unit-eq0 : goal.returns-then-unit-eq0
returns-then-unit-eq0 c = search behind_none

pub overflow_add-result : goal.overflow_add-result
overflow_add-result c = search (place_fits, unit_there)

pub returns : goal.returns
returns c = search behind_unit
