-- `leaves::digits::loose_digit` meets its contract. Assumes nothing.
use Rattle.std.proofs.Common.{◌+◌, ◌%◌, arith}
use Rattle.leaves.proofs.Sums.{of_decimal, of_letter}
use Rattle.leaves.proofs.digits.loose_digit.Goals as goal

pub returns-then-byte-le57 : goal.returns-then-byte-le57
returns-then-byte-le57 c = of_decimal c.args.byte ((c.args.byte + 208) % 256) c.if-byte-le57.true (omega arith) (omega (arith, c.ranges.byte.fits))

pub returns : goal.returns
returns c = of_letter c.args.byte ((c.args.byte + 191) % 256) c.if-byte-le57.false c.ranges.byte.fits (omega arith) (omega (arith, c.ranges.byte.fits))
