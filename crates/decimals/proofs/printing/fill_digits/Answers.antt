-- `decimals::printing::fill_digits` meets its contract. Assumes nothing.
use Rattle.decimals.proofs.Decimals.{chunk_start, chunk_room, chunk_inside, chunk_on, chunk_end, billion_less}
use Rattle.decimals.proofs.printing.fill_digits.Goals as goal

pub loop-left-init : goal.loop-left-init
loop-left-init c = search chunk_start

pub overflow_sub-end : goal.overflow_sub-end
overflow_sub-end c = search chunk_room

pub slice_bounds-fill_low-end : goal.slice_bounds-fill_low-end
slice_bounds-fill_low-end c = search chunk_inside

pub overflow_sub-end-in-loop-left : goal.overflow_sub-end-in-loop-left
overflow_sub-end-in-loop-left c = search chunk_room

pub loop-left-smaller : goal.loop-left-smaller
loop-left-smaller c = search billion_less

pub loop-left-preserved : goal.loop-left-preserved
loop-left-preserved c = search chunk_on

pub slice_bounds-fill_low-end-2 : goal.slice_bounds-fill_low-end-2
slice_bounds-fill_low-end-2 c = search chunk_inside

pub returns : goal.returns
returns c = search chunk_end
