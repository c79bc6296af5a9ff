-- Separators in decimal text: between two digits, how many, and what is then answered. Assumes nothing.
use Rattle.std.specs.Prelude.{ℕ, ◌+◌, ◌-◌, Bool, ◌&&◌, List, ◌∷◌, length, nat_lt}
use Prim.Native.Char.{code}
use Rattle.meaning.specs.Bytes.{◌!◌, has, digit}
use Rattle.std.specs.Prelude.{if◌then◌else◌}
use Rattle.meaning.specs.Reading.{Answer, borrowed, written, refused}
use Rattle.meaning.specs.Numbers.{placed, strip}
use Rattle.std.specs.Prelude.{Option, Some, None}

-- the bytes before and after place i are decimal digits
unfoldable pub is_between : List ℕ → ℕ → Bool
is_between t i = nat_lt (digit ((0 ∷ t) ! i)) 10 && nat_lt (digit (t ! (i + 1))) 10

unfoldable pub separators_of : List ℕ → Option ℕ
separators_of t = if placed 10 0 t then Some (length t - length (strip t)) else None

-- decimal text in base ten
unfoldable pub plain_of : List ℕ → Answer
plain_of t = if placed 10 0 t then (if has (code "_") t then written (strip t) else borrowed 0 (length t)) else refused 0
