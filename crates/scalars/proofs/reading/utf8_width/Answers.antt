-- `scalars::reading::utf8_width` meets its contract. Each return's tests bound the byte, and `width_is` reads its rows. Assumes nothing.
use native.Mathlib.Omega.{arith}
use Rattle.scalars.proofs.Widths.{width_is}
use Rattle.scalars.proofs.reading.utf8_width.Goals as goal

pub returns-then-byte-le127 : goal.returns-then-byte-le127
returns-then-byte-le127 c = width_is 1 c.args.byte (omega arith)

pub returns-then-byte-le193 : goal.returns-then-byte-le193
returns-then-byte-le193 c = width_is 0 c.args.byte (omega arith)

pub returns-then-byte-le223 : goal.returns-then-byte-le223
returns-then-byte-le223 c = width_is 2 c.args.byte (omega arith)

pub returns-then-byte-le239 : goal.returns-then-byte-le239
returns-then-byte-le239 c = width_is 3 c.args.byte (omega arith)

pub returns-then-byte-le244 : goal.returns-then-byte-le244
returns-then-byte-le244 c = width_is 4 c.args.byte (omega arith)

pub returns : goal.returns
returns c = width_is 0 c.args.byte (omega arith)
