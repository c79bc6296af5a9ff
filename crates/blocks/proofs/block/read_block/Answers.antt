-- `blocks::block::read_block` meets its contract. The loop's invariant, `Running`: the items before the place are told, and their values put. Assumes nothing.
use Rattle.blocks.proofs.Running.{running_none, running_start, running_answers, running_room, running_small, same_answers, same_out}
use Rattle.blocks.proofs.Running.{items_all, item_place, item_stands, item_lay, item_used, item_more}
use Rattle.blocks.proofs.block.read_block.Goals as goal

pub overflow_mul-at : goal.overflow_mul-at
overflow_mul-at c = search item_place

pub overflow_add-used : goal.overflow_add-used
overflow_add-used c = search item_used

pub returns-then-is_bad_block : goal.returns-then-is_bad_block
returns-then-is_bad_block c = search running_none

pub loop-place-init : goal.loop-place-init
loop-place-init c = search running_start

pub item_at-requires : goal.item_at-requires
item_at-requires c = search item_stands

pub slice_bounds-read_item-count : goal.slice_bounds-read_item-count
slice_bounds-read_item-count c = search running_room

pub slice_bounds-read_item-start : goal.slice_bounds-read_item-start
slice_bounds-read_item-start c = search running_room

pub read_item-told-requires : goal.read_item-told-requires
read_item-told-requires c = search running_small

pub slice_bounds-lay-count : goal.slice_bounds-lay-count
slice_bounds-lay-count c = search running_answers

pub slice_bounds-lay-start : goal.slice_bounds-lay-start
slice_bounds-lay-start c = search running_answers

pub lay-requires : goal.lay-requires
lay-requires c = search item_lay

pub loop-place-preserved : goal.loop-place-preserved
loop-place-preserved c = search item_more

pub shape_of-answers : goal.shape_of-answers
shape_of-answers c = search same_answers

pub shape_of-out : goal.shape_of-out
shape_of-out c = search same_out

pub returns : goal.returns
returns c = search items_all
