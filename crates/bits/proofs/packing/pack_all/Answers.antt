-- `bits::packing::pack_all` meets its contract: one pen over the first segment and the others. Assumes nothing.
use Rattle.bits.proofs.Packings.{all_ordered, all_inside, all_behind, all_first, all_later_lem, all_closable, all_packed}
use Rattle.bits.proofs.packing.pack_all.Goals as goal

pub slice_bounds-pack_run-count : goal.slice_bounds-pack_run-count
slice_bounds-pack_run-count c = search all_ordered

pub slice_bounds-pack_run-start : goal.slice_bounds-pack_run-start
slice_bounds-pack_run-start c = search all_ordered

pub slice_bounds-pack_run-end : goal.slice_bounds-pack_run-end
slice_bounds-pack_run-end c = search all_inside

pub pack_run-first-requires : goal.pack_run-first-requires
pack_run-first-requires c = search all_first

pub slice_bounds-pack_later-count : goal.slice_bounds-pack_later-count
slice_bounds-pack_later-count c = search all_behind

pub slice_bounds-pack_later-start : goal.slice_bounds-pack_later-start
slice_bounds-pack_later-start c = search all_behind

pub pack_later-pen-requires : goal.pack_later-pen-requires
pack_later-pen-requires c = search all_later_lem

pub close-requires : goal.close-requires
close-requires c = all_closable c.args.radix _ c.requires _ _ c.pack_run-first.ensures _ _ c.pack_later-pen.ensures

pub returns : goal.returns
returns c = all_packed c.args.radix _ c.requires _ _ c.pack_run-first.ensures _ _ c.pack_later-pen.ensures _ c.close.ensures
