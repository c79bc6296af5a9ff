-- `bits::pens::eight_binary` meets its contract. The loop's invariant: j digits are read. The measure is what is left. Assumes nothing.
use native.Mathlib.Omega.{arith}
use Rattle.bits.proofs.Inking.{reading_none, reading_double, reading_inside, reading_fits, reading_turn, reading_end}
use Rattle.bits.proofs.pens.eight_binary.Goals as goal

pub loop-j-init : goal.loop-j-init
loop-j-init c = search reading_none

pub overflow_mul-byte : goal.overflow_mul-byte
overflow_mul-byte c = search reading_double

pub overflow_add-byte : goal.overflow_add-byte
overflow_add-byte c = omega (arith, reading_inside c.loop-j.invariant c.requires (omega arith))

pub bounds-digits-at : goal.bounds-digits-at
bounds-digits-at c = search reading_inside

pub overflow_add-byte-in-loop-j : goal.overflow_add-byte-in-loop-j
overflow_add-byte-in-loop-j c = search reading_fits

pub loop-j-preserved : goal.loop-j-preserved
loop-j-preserved c = search reading_turn

pub returns : goal.returns
returns c = search reading_end
