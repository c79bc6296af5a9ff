-- `takes` at plain bytes meets its contract. One comparison tells a byte from 1 to 127. Assumes nothing.
use Rattle.std.proofs.Common.{◌+◌, ◌%◌, arith}
use Rattle.utf8.proofs.PlainBytes.{plain_byte}
use Rattle.utf8.proofs.ascii.PlainByteTest.takes.Goals as goal

pub returns : goal.returns
returns c = plain_byte c.args.byte _ _ ((c.args.byte + 255) % 256) c.ranges.byte.fits (omega arith) (omega (arith, c.ranges.byte.fits))
