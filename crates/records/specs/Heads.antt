-- What a line begins with, and what it ends with. Assumes nothing.
use Rattle.std.specs.Prelude.{List, [], ◌∷◌, ◌++◌, ℕ}
use Rattle.meaning.specs.Numbers.{digits_of}
use Rattle.meaning.specs.Records.{hex_text}

abbrev pub front_of : ℕ → ℕ → List ℕ
front_of n how = digits_of n ++ (32 ∷ how ∷ 32 ∷ [])

abbrev pub back_of : List ℕ → List ℕ
back_of t = 32 ∷ hex_text t ++ (10 ∷ [])
