-- What a good record keeps to. Assumes nothing.
use Rattle.std.specs.Prelude.{◌≡◌, true, List, ℕ, ◌≤◌, length}
use Rattle.meaning.specs.Bytes.{◌!◌}
use Rattle.meaning.specs.Records.{good_record}

pub record Good (r : List ℕ) : Type 0 where
  pub holds : good_record r ≡ true
  pub long : length r ≡ 64
  pub low : 1 ≤ r ! 1
  pub high : r ! 1 ≤ 14
  pub short : r ! 3 ≤ 60
