-- `writer::bits::are_bad` meets its contract: the definition's three reasons, in its order. Assumes nothing.
use Rattle.writer.proofs.BitTests.{bad_length, bad_digits, bad_unused}
use Rattle.writer.proofs.bits.are_bad.Goals as goal

pub returns-then-bytes-packed_len : goal.returns-then-bytes-packed_len
returns-then-bytes-packed_len c = search bad_length

pub returns-then-not-are_whole : goal.returns-then-not-are_whole
returns-then-not-are_whole c = search bad_digits

pub returns : goal.returns
returns c = search bad_unused
