-- What printing is put together from. Assumes nothing.
use Rattle.std.specs.Prelude.{◌≡◌, ℕ, zero, suc, ◌+◌, ◌/◌, ◌%◌, List, [], ◌∷◌, ◌++◌}
use Rattle.meaning.specs.Halves.{joined_halves}
use Rattle.decimals.specs.declared.printing.Parted.{Parted}

-- a billionth of n, and what is left
pub record Parts (n : ℕ) (p : Parted) : Type 0 where
  pub quotient : joined_halves p.quotient.hi p.quotient.lo ≡ n / 1000000000
  pub left : p.rest ≡ n % 1000000000

-- the last k digits of n, with zeros in front where it has fewer
abbrev pub last_of : ℕ → ℕ → List ℕ
last_of zero n = []
last_of (suc k) n = last_of k (n / 10) ++ ((48 + n % 10) ∷ [])
