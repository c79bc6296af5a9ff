-- `scalars::reading::lead_bits` meets its contract. Each return's tests bound the byte, and `bits_is` reads its rows. Assumes nothing.
use native.Mathlib.Omega.{arith}
use Prim.Native.Nat.{◌-◌}
use Rattle.scalars.proofs.Widths.{bits_is}
use Rattle.scalars.proofs.reading.lead_bits.Goals as goal

pub returns-then-byte-lt128 : goal.returns-then-byte-lt128
returns-then-byte-lt128 c = bits_is c.args.byte c.args.byte (omega arith)

pub returns-then-byte-lt194 : goal.returns-then-byte-lt194
returns-then-byte-lt194 c = bits_is (0) c.args.byte (omega arith)

pub returns-then-byte-lt224 : goal.returns-then-byte-lt224
returns-then-byte-lt224 c = bits_is (c.args.byte - 0xC0) c.args.byte (omega arith)

pub returns-then-byte-lt240 : goal.returns-then-byte-lt240
returns-then-byte-lt240 c = bits_is (c.args.byte - 0xE0) c.args.byte (omega arith)

pub returns-then-byte-lt245 : goal.returns-then-byte-lt245
returns-then-byte-lt245 c = bits_is (c.args.byte - 0xF0) c.args.byte (omega arith)

pub returns : goal.returns
returns c = bits_is (0) c.args.byte (omega arith)
