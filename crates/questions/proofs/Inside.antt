-- What each reader borrows lies in its text. Of strings and temporal texts this is Ranges' read_inside and temporal_inside, of bits Segment's bits_inside, of a charset's name
-- AgreedParts' charset_inside. Assumes nothing.
use mathlib.Core.Path.{◌≡◌, refl}
use mathlib.Core.Bool.{Bool, true, false, not}
use mathlib.Core.List.{List, [], ◌∷◌}
use Prim.Native.Nat.{ℕ, ◌≤◌}
use Prim.Native.Char.{code}
use native.Mathlib.Omega.{arith}
use lib.Dec.{eqb}
use lib.ListN.{length}
use Rattle.meaning.specs.Bytes.{◌!◌, has}
use Rattle.std.specs.Prelude.{if◌then◌else◌}
use Rattle.meaning.specs.Reading.{borrowed, written, refused}
use Rattle.meaning.specs.Numbers.{Parsed, none, int, base_of, separated, strip, radix_value, printed_by, decimal_of}
use Rattle.meaning.specs.Kinds.{money}
use Rattle.laws.proofs.questions.Ranges.{AnswerIn}

pub decimal_inside : (t : List ℕ) → AnswerIn (length t) (decimal_of t)
unfolding decimal_of
decimal_inside t = go (not (separated t)) (eqb (base_of t) 10) (has (code "_") t) (radix_value 127 t)
  where
    go : (x y z : Bool) (p : Parsed) → AnswerIn (length t)
        (if x then refused 0 else if y then (if z then written (strip t) else borrowed 0 (length t)) else printed_by p)
    go true y z p = tt
    go false true true p = tt
    go false true false p = record { ordered = omega arith; inside = omega arith }
    go false false z none = tt
    go false false z (int i) = tt

-- a byte that is not 0 stands in the text
byte_inside : (t : List ℕ) → eqb (t ! 0) (code "$") ≡ true → 1 ≤ length t
byte_inside [] h = absurd (let z : ◌≡◌ {A = ℕ} 0 1 = cc in omega arith)
byte_inside (b ∷ t) h = omega arith

pub money_inside : (t : List ℕ) → AnswerIn (length t) (money t)
unfolding money
money_inside t = go (eqb (t ! 0) (code "$")) refl
  where
    go : (x : Bool) → eqb (t ! 0) (code "$") ≡ x → AnswerIn (length t) (if x then borrowed 1 (length t) else refused 0)
    go true h = record { ordered = byte_inside t h; inside = omega arith }
    go false h = tt
