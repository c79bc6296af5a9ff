-- `bits::reading::join_bits` meets its contract: nothing is written before all is measured. Assumes nothing.
use native.Mathlib.Omega.{arith}
use Rattle.bits.proofs.Wholes.{joined_fits, place_fits, joined_refused, joined_short, rest_room, joined_written}
use Rattle.bits.proofs.reading.join_bits.Goals as goal

pub overflow_add-len : goal.overflow_add-len
overflow_add-len c = let h = joined_fits _ _ c.args.text.now _ _ _ c.requires _ c.measure_later.ensures _ c.in-Ok.is in
    omega (arith, h)

pub returns-then-out-len : goal.returns-then-out-len
returns-then-out-len c = search joined_short

pub write_later-requires : goal.write_later-requires
write_later-requires c = search rest_room

pub overflow_add-place : goal.overflow_add-place
overflow_add-place c = let h = place_fits _ _ c.args.text.now _ _ _ c.requires _ c.measure_later.ensures _ c.in-Err.is in
    omega (arith, h)

pub returns-else-out-len : goal.returns-else-out-len
returns-else-out-len c = search joined_written

pub returns-in-Err : goal.returns-in-Err
returns-in-Err c = search joined_refused
