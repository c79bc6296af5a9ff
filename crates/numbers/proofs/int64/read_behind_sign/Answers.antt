-- `numbers::int64::read_behind_sign` meets its contract. Digits alone behind a sign are read as such; any other text is read as it is spelt. Assumes nothing.
use Rattle.numbers.proofs.Prefixes.{sign_some}
use Rattle.numbers.proofs.Fitting.{behind_i64}
use Rattle.numbers.proofs.int64.read_behind_sign.Goals as goal

pub slice_bounds-read_short-count : goal.slice_bounds-read_short-count
slice_bounds-read_short-count c = search sign_some

pub slice_bounds-read_short-start : goal.slice_bounds-read_short-start
slice_bounds-read_short-start c = search sign_some

pub returns-in-Some : goal.returns-in-Some
returns-in-Some c = search behind_i64
