-- `leaves::words::flags` meets its contract. Below the first byte looked for nothing is borrowed. Assumes nothing.
use Rattle.std.proofs.Common.{◌*◌, arith}
use Rattle.std.proofs.lemmas.Nat.{xor_lt}
use Rattle.leaves.proofs.WordFlags.{flags_of}
use Rattle.leaves.proofs.words.flags.Goals as goal

pub returns : goal.returns
returns c = flags_of _ _ _ c.ranges.stop.fits (omega (arith, c.ranges.word.fits, c.ranges.stop.fits, xor_lt 64 c.args.word (c.args.stop * 0x0101010101010101) c.ranges.word.fits (omega (arith, c.ranges.stop.fits))))
