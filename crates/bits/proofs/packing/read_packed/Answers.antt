-- `bits::packing::read_packed` meets its contract: the digits are found and counted, then packed. Assumes nothing.
use Rattle.std.proofs.Common.{arith}
use Rattle.bits.proofs.Packings.{found_ordered, found_fits, found_segmented, packs_refused, packs_short, packs_written}
use Rattle.bits.proofs.packing.read_packed.Goals as goal

pub returns-in_default : goal.returns-in_default
returns-in_default c = search packs_refused

pub overflow_sub-digits : goal.overflow_sub-digits
overflow_sub-digits c = search found_ordered

pub overflow_add-digits : goal.overflow_add-digits
overflow_add-digits c = omega (arith, found_fits c.args.radix c.find_digits.ensures c.base_of.ensures _ c.in-Ok.is)

pub returns-then-out-len : goal.returns-then-out-len
returns-then-out-len c = search packs_short

pub pack_all-requires : goal.pack_all-requires
pack_all-requires c = found_segmented c.args.radix c.find_digits.ensures c.base_of.ensures _ c.in-Ok.is _
    c.packed_len-len.ensures c.args.out.now c.if-out-len.false

pub returns : goal.returns
returns c = packs_written c.args.radix c.find_digits.ensures c.base_of.ensures _ c.in-Ok.is _
    c.packed_len-len.ensures _ c.if-out-len.false _ c.pack_all.ensures
