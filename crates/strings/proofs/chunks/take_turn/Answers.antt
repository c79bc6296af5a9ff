-- `strings::chunks::take_turn` meets its contract: a run of sixteen; a run, and what is behind it. Assumes nothing.
use Rattle.strings.proofs.ChunkTurns.{turn_there, turn_room, turn_block, turn_on}
use Rattle.strings.proofs.chunks.take_turn.Goals as goal

pub returns-then-run-eq16 : goal.returns-then-run-eq16
returns-then-run-eq16 c = search turn_block

pub take_behind-requires : goal.take_behind-requires
take_behind-requires c = search (turn_there, turn_room)

pub returns : goal.returns
returns c = search turn_on
