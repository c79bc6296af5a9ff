-- The blanks of ASCII. Assumes nothing.
use Rattle.std.specs.Prelude.{Bool, ◌&&◌, ◌||◌, ℕ, eqb, leb}

abbrev pub is_blank : ℕ → Bool
is_blank b = (leb 9 b && leb b 13) || eqb b 32
