-- `numbers::radix::read_halves` meets its contract. Assumes nothing.
use Rattle.std.proofs.Common.{rules}
use Rattle.numbers.proofs.Spelled.{not_apart, apart_on, ends_misspelt, beyond}
use Rattle.numbers.proofs.Carrying.{wide_as, carry_start, carry_end, base_by_bits, in_base}
use Rattle.numbers.proofs.Carrying.{carried_over, carried_high, carried_product, carried_low, carried_on}
use Rattle.numbers.proofs.radix.read_halves.Goals as goal
use Rattle.numbers.proofs.radix.read_halves.Goals.{then-digit-base+else-lost-ne0, else-digit-base+then-byte-behind}

pub loop-byte-init : goal.loop-byte-init
loop-byte-init g c = search carry_start

pub returns-then-lost-ne0 : goal.returns-then-lost-ne0
returns-then-lost-ne0 g c = search (in_base, carried_over, base_by_bits)

pub overflow_mul-hi : goal.overflow_mul-hi
overflow_mul-hi g c = search (carried_product, base_by_bits)

pub overflow_add-hi : goal.overflow_add-hi
overflow_add-hi g c = search (carried_high, base_by_bits)

pub overflow_add-lo : goal.overflow_add-lo
overflow_add-lo g c = search (carried_low, base_by_bits)

pub loop-byte-preserved : goal.loop-byte-preserved
loop-byte-preserved g c = elim c.if-digit-base.branch [
  | then-digit-base+else-lost-ne0 w ↦ rw (w.hi-is, w.lo-is, w.behind-is) (search (carried_on, base_by_bits, w.if-digit-base, w.if-lost-ne0))
  | else-digit-base+then-byte-behind w ↦
      rw (w.hi-is, w.lo-is, w.behind-is)
      (record { reading = search (apart_on, beyond, w.if-digit-base, w.if-byte-behind); high = search rules; low = search rules })
]

pub returns-else-byte-behind : goal.returns-else-byte-behind
returns-else-byte-behind g c = search (in_base, wide_as, not_apart, beyond)

pub returns-then-behind : goal.returns-then-behind
returns-then-behind g c = search (in_base, carry_end)

pub returns-else-behind : goal.returns-else-behind
returns-else-behind g c = search (in_base, wide_as, ends_misspelt)
