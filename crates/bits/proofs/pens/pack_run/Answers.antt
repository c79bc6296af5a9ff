-- `bits::pens::pack_run` meets its contract. The loop's invariant: the first i digits are packed, whatever follows. The measure is what is left. Assumes nothing.
use native.Mathlib.Omega.{arith}
use Rattle.bits.proofs.Radix.{bits_some, bits_fit}
use Rattle.bits.proofs.Runs.{going_none, going_same, going_fits, going_full_inside, going_full, going_less, going_more, going_double}
use Rattle.bits.proofs.Runs.{going_whole_digits, going_whole_inside, going_step, going_shorter, going_whole, going_end}
use Rattle.bits.proofs.pens.pack_run.Goals as goal

pub nonzero_div-whole : goal.nonzero_div-whole
nonzero_div-whole c = search bits_some

pub overflow_cast-whole : goal.overflow_cast-whole
overflow_cast-whole c = search bits_fit

pub loop-i-init : goal.loop-i-init
loop-i-init c = search going_none

pub whole_byte-requires : goal.whole_byte-requires
whole_byte-requires c = search going_whole_digits

pub bounds-out-at : goal.bounds-out-at
bounds-out-at c = search going_whole_inside

pub overflow_add-at : goal.overflow_add-at
overflow_add-at c = let r = c.args.radix in
    omega (
      arith,
      going_same r c.loop-i.invariant c.requires,
      going_whole_inside r c.loop-i.invariant c.requires c.bits_of-bits.result c.bits_of-bits.ensures c.if-missing-whole.true,
    )

pub overflow_add-i : goal.overflow_add-i
overflow_add-i c = omega (
  arith,
  going_step c.args.radix c.loop-i.invariant c.requires c.bits_of-bits.result c.bits_of-bits.ensures c.if-missing-whole.true,
)

pub loop-i-smaller-then-missing-whole : goal.loop-i-smaller-then-missing-whole
loop-i-smaller-then-missing-whole c = search going_shorter

pub loop-i-preserved-then-missing-whole : goal.loop-i-preserved-then-missing-whole
loop-i-preserved-then-missing-whole c = search going_whole

pub overflow_mul-byte : goal.overflow_mul-byte
overflow_mul-byte c = search going_double

pub overflow_add-byte : goal.overflow_add-byte
overflow_add-byte c = search going_fits

pub bounds-out-at-then-missing-bits : goal.bounds-out-at-then-missing-bits
bounds-out-at-then-missing-bits c = search going_full_inside

pub overflow_add-at-then-missing-bits : goal.overflow_add-at-then-missing-bits
overflow_add-at-then-missing-bits c = let r = c.args.radix in
    omega (
      arith,
      going_same r c.loop-i.invariant c.requires,
      going_full_inside r c.loop-i.invariant c.requires (omega arith) c.base_of-base.result c.hex_value.result c.base_of-base.ensures
          c.hex_value.ensures c.bits_of-bits.result c.bits_of-bits.ensures c.if-missing-bits.true,
    )

pub loop-i-preserved-then-missing-bits : goal.loop-i-preserved-then-missing-bits
loop-i-preserved-then-missing-bits c = search going_full

pub overflow_sub-missing : goal.overflow_sub-missing
overflow_sub-missing c = search going_less

pub loop-i-preserved : goal.loop-i-preserved
loop-i-preserved c = search going_more

pub shape_of-out : goal.shape_of-out
shape_of-out c = search going_same

pub returns : goal.returns
returns c = search going_end
