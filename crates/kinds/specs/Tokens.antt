-- A token of the code as one of `meaning`, and where the first mark of a token stands. Assumes nothing.
use Rattle.std.specs.Prelude.{Bool, ◌||◌, not, List, ℕ, zero, suc, eqb}
use Prim.Native.Char.{code}
use Rattle.meaning.specs.Bytes.{span, quote}
use Rattle.meaning.specs.Kinds as kinds
use Rattle.kinds.specs.declared.temporal.Token.{Token}
use Rattle.std.specs.Prelude.{Option, Some, None}

abbrev pub token_at : ℕ → ℕ → Token
token_at f u = record { from = f; until = u }

abbrev pub token_of : kinds.Token → Option Token
token_of (kinds.token f u) = Some (token_at f u)
token_of kinds.no_token = None

-- a place that `found` counts from 1 on
abbrev pub place_of : ℕ → Option ℕ
place_of zero = None
place_of (suc k) = Some k

-- the place of the first byte that is ' or $, the length if there is none
abbrev pub unmarked : ℕ → Bool
unmarked b = not (eqb b quote || eqb b (code "$"))

abbrev pub first_mark : List ℕ → ℕ
first_mark t = span unmarked t
