-- What a piece means: the step that it is, by the escape character's bytes e. Assumes nothing.
use Rattle.std.specs.Prelude.{◌≡◌, List, [], ◌∷◌, ℕ, ◌+◌, ◌≤◌, ltb, length}
use Rattle.std.specs.Prelude.{if◌then◌else◌}
use Rattle.meaning.specs.Chars.{encode}
use Rattle.meaning.specs.Walk.{Step, keep, give, stop}
use Rattle.meaning.specs.Steps.{byte_of, escape_table, may_escape}
use Rattle.escapes.specs.declared.pieces.Piece.{Piece}
use Rattle.escapes.specs.declared.pieces.Piece.TheVariants.{Keep, Byte, Two, Scalar, Escape, Refused}

-- a unit of n bytes more than one by a number, 0 for none; E's letter by its table, or itself
unfoldable pub scalar_of : ℕ → ℕ → Step
scalar_of n v = if may_escape v then give n (encode v) else stop

unfoldable pub letter_of : ℕ → ℕ
letter_of c = if ltb (byte_of escape_table c) 256 then byte_of escape_table c else c

abbrev pub meaning_of : List ℕ → Piece → Step
meaning_of e Keep = keep
meaning_of e (Byte b m) = give m (b ∷ [])
meaning_of e (Two b c m) = give m (b ∷ c ∷ [])
meaning_of e (Scalar c m) = scalar_of m c
meaning_of e (Escape m) = give m e
meaning_of e Refused = stop

-- the piece is that step by the escape character's bytes e; and whatever these are
pub record IsBy (e : List ℕ) (r : Piece) (s : Step) : Type 0 where
  pub means : meaning_of e r ≡ s

pub record Is (r : Piece) (s : Step) : Type 0 where
  pub means : (e : List ℕ) → meaning_of e r ≡ s

-- a place of a body l behind the escape character; and behind that and a high half h by four digits
pub record Behind (e l : List ℕ) (at : ℕ) : Type 0 where
  pub behind : length e ≤ at
  pub inside : at ≤ length l

pub record HighHalf (e l : List ℕ) (at h : ℕ) : Type 0 where
  pub behind : length e + 4 ≤ at
  pub inside : at ≤ length l
  pub least : 0xD800 ≤ h
  pub most : h ≤ 0xDBFF
