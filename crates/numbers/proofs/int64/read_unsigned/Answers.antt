-- `numbers::int64::read_unsigned` meets its contract. Digits alone are read as such; any other text is read as it is spelt. Assumes nothing.
use Rattle.numbers.proofs.Fitting.{unsigned_i64}
use Rattle.numbers.proofs.int64.read_unsigned.Goals as goal

pub returns-in-Some : goal.returns-in-Some
returns-in-Some c = search unsigned_i64
