-- `records::record::is_good_record` meets its contract, test by test. Assumes nothing.
use native.Mathlib.Omega.{arith}
use Rattle.records.proofs.Goods.{bad_length, bad_text, good_or_not}
use Rattle.records.proofs.record.is_good_record.Goals as goal

pub returns-then-bytes-ne64 : goal.returns-then-bytes-ne64
returns-then-bytes-ne64 c = search bad_length

pub overflow_cast-len : goal.overflow_cast-len
overflow_cast-len c = omega (arith, c.type_inv.bytes 3)

pub returns-then-len-gt60 : goal.returns-then-len-gt60
returns-then-len-gt60 c = search bad_text

pub returns : goal.returns
returns c = search good_or_not
