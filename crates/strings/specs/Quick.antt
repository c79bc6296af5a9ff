-- What the quick reading owes, piece by piece: a front of the text behind an opening, and the bytes that it stands for. Nothing is said where it takes nothing:
-- the reading by units answers there. Assumes nothing.
use Rattle.std.specs.Prelude.{◌≡◌, Bool, true, false, List, [], ◌∷◌, ℕ, ◌≤◌, ◌<◌, ltb, length, take, drop}
use Rattle.meaning.specs.Bytes.{quote, backslash}
use Rattle.std.specs.Prelude.{if◌then◌else◌}
use Rattle.meaning.specs.Chars.{encode}
use Rattle.meaning.specs.Walk.{Step, give}
use Rattle.meaning.specs.Steps.{byte_of, mysql_table, may_escape, low_half, escape_step}
use Rattle.laws.proofs.walking.Fronts.{Front}
use Rattle.laws.proofs.utf8.Abreast.{Lows, Abreast}
use Rattle.laws.proofs.cutting.Fronted.{Lone}
use Rattle.cutting.specs.Marks.{mark_of}
use Rattle.escapes.specs.declared.units.Family.{Family}
use Rattle.escapes.specs.declared.units.Family.TheVariants.{Standard, Escape, Unicode}
use Rattle.escapes.specs.Families.{step_of, checks}
use Rattle.strings.specs.declared.taking.Taken.{Taken}
use Rattle.strings.specs.declared.taking.Raw.{Raw}
use Rattle.strings.specs.declared.chunks.End.{End}
use Rattle.strings.specs.declared.chunks.End.TheVariants.{More, Closed}
use Rattle.strings.specs.declared.chunks.Turn.{Turn}
use Rattle.leaves.specs.Blocks.{passes}
use Rattle.leaves.specs.Words.{neither}

-- U& is read with the backslash: a text with a UESCAPE clause is not read here
abbrev pub step_by : Family → List ℕ → Step
step_by f t = step_of f (backslash ∷ []) t

-- the mark of a family's body, and the other byte that ends a run
abbrev pub mark_by : Family → ℕ
mark_by (Standard m bs) = mark_of m
mark_by Escape = quote
mark_by (Unicode m) = mark_of m

abbrev pub other_by : Family → ℕ
other_by (Standard m bs) = if bs then backslash else mark_of m
other_by Escape = backslash
other_by (Unicode m) = backslash

unfoldable pub mysql_of : ℕ → ℕ
mysql_of c = if ltb (byte_of mysql_table c) 256 then byte_of mysql_table c else c

-- UNITS that stand for other bytes than their own
pub record Takes (f : Family) (text : List ℕ) (r : Taken) : Type 0 where
  pub few : r.put ≤ 4
  pub four : length r.bytes ≡ 4
  pub front : 0 < r.len → Front (step_by f) text r.len (take r.put r.bytes) false
  pub abreast : 0 < r.len → checks f ≡ true → Abreast (take r.len text) (take r.put r.bytes)

-- a character by its number
pub record Scalars (len value : ℕ) (r : Taken) : Type 0 where
  pub few : r.put ≤ 4
  pub four : length r.bytes ≡ 4
  pub long : 0 < r.len → r.len ≡ len
  pub may : 0 < r.len → may_escape value ≡ true
  pub put : 0 < r.len → take r.put r.bytes ≡ encode value

-- the low half that follows a high one by four digits, whose backslash is the text's first byte
pub record Pairs (high : ℕ) (text : List ℕ) (r : Taken) : Type 0 where
  pub few : r.put ≤ 4
  pub four : length r.bytes ≡ 4
  pub long : 0 < r.len → r.len ≡ 10
  pub step : 0 < r.len → low_half (backslash ∷ []) high (drop 5 text) ≡ give 9 (take r.put r.bytes)

-- a byte that E spells by digits
pub record Raws (text : List ℕ) (r : Raw) : Type 0 where
  pub front : 0 < r.len → Front escape_step text r.len (r.byte ∷ []) false
  pub lows : 0 < r.len → Lows (take r.len text)

-- RUNS of bytes that stand for themselves
pub record Copies (first second : ℕ) (text out : List ℕ) (r : ℕ) (after : List ℕ) : Type 0 where
  pub same : length after ≡ length out
  pub most : r ≤ 16
  pub free : passes (neither first second) r text ≡ true
  pub copied : take r after ≡ take r text

-- TURNS
pub record Turns (f : Family) (text out : List ℕ) (r : Turn) (after : List ℕ) : Type 0 where
  pub same : length after ≡ length out
  pub room : r.n ≤ 20
  pub front : Front (step_by f) text r.at (take r.n after) r.plain
  pub abreast : checks f ≡ true → Abreast (take r.at text) (take r.n after)
  pub goes : r.ends ≡ false → 0 < r.at

-- the unit behind a run that is copied already, from a buffer that held d
pub record TurnsBehind (f : Family) (text : List ℕ) (run : ℕ) (out : List ℕ) (r : Turn) (after : List ℕ) : Type 0 where
  pub same : length after ≡ length out
  pub turns : (d : List ℕ) → Copies (mark_by f) (other_by f) text d run out → Turns f text d r after

-- what follows a turn
pub record Ends (text : List ℕ) (at : ℕ) (f : Family) (ends : Bool) (r : End) : Type 0 where
  pub closed : r ≡ Closed → Lone text at (mark_by f)
  pub more : r ≡ More → ends ≡ false
