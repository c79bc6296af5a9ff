-- `strings::storing::read_body` meets its contract. The loop's invariant, `Reading`: how far the body is read, from what was stored before it. The measure is what is
-- left of the text. Assumes nothing.
use Rattle.strings.proofs.Fillings.{reading_none, reading_size, reading_room, reading_on, reading_less, reading_ends}
use Rattle.strings.proofs.storing.read_body.Goals as goal

pub loop-body-init : goal.loop-body-init
loop-body-init c = search reading_none

pub fill-body-requires : goal.fill-body-requires
fill-body-requires c = search (reading_size, reading_room)

pub loop-body-smaller : goal.loop-body-smaller
loop-body-smaller c = search reading_less

pub loop-body-preserved : goal.loop-body-preserved
loop-body-preserved c = search reading_on

pub returns-in_default : goal.returns-in_default
returns-in_default c = search reading_ends
