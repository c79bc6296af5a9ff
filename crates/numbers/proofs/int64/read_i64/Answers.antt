-- `numbers::int64::read_i64` meets its contract. What has a sign is read behind it. Assumes nothing.
use Rattle.numbers.proofs.Prefixes.{sign_one}
use Rattle.numbers.proofs.int64.read_i64.Goals as goal

pub read_behind_sign-requires : goal.read_behind_sign-requires
read_behind_sign-requires c = search sign_one
