-- `numbers::digits::read_digits` meets its contract. Assumes nothing.
use Rattle.std.proofs.Common.{arith, rules}
use Rattle.numbers.proofs.Spelled.{reading_start, not_apart, apart_on, ends_misspelt, beyond}
use Rattle.numbers.proofs.Magnitudes.{refused_as, tally_end, tally_over, tally_on}
use Rattle.numbers.proofs.digits.read_digits.Goals as goal
use Rattle.numbers.proofs.digits.read_digits.Goals.{then-digit-lt10+else-value-ge922337203685477581, else-digit-lt10+then-byte-behind}

pub loop-byte-init : goal.loop-byte-init
loop-byte-init c = record { reading = search reading_start; small = omega arith }

pub returns-then-value-ge922337203685477581 : goal.returns-then-value-ge922337203685477581
returns-then-value-ge922337203685477581 c = search tally_over

pub loop-byte-preserved : goal.loop-byte-preserved
loop-byte-preserved c = elim c.if-digit-lt10.branch [
  | then-digit-lt10+else-value-ge922337203685477581 w ↦
      rw (w.value-is, w.behind-is) (search (tally_on, w.if-digit-lt10, w.if-value-ge922337203685477581))
  | else-digit-lt10+then-byte-behind w ↦
      rw (w.value-is, w.behind-is) (record { reading = search (apart_on, beyond, w.if-digit-lt10, w.if-byte-behind); small = search rules })
]

pub returns-else-byte-behind : goal.returns-else-byte-behind
returns-else-byte-behind c = search (refused_as, not_apart, beyond)

pub returns-then-behind : goal.returns-then-behind
returns-then-behind c = search tally_end

pub returns-else-behind : goal.returns-else-behind
returns-else-behind c = search (refused_as, ends_misspelt)
