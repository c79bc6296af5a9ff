-- `bits::pens::close` meets its contract: the byte at hand is put, if one is. Assumes nothing.
use Rattle.bits.proofs.Inking.{close_room, close_written, close_idle}
use Rattle.bits.proofs.pens.close.Goals as goal

pub bounds-out-at : goal.bounds-out-at
bounds-out-at c = search close_room

pub returns-then-pen-lt8 : goal.returns-then-pen-lt8
returns-then-pen-lt8 c = search close_written

pub returns-else-pen-lt8 : goal.returns-else-pen-lt8
returns-else-pen-lt8 c = search close_idle
