-- [02 T-01] A value beside its spelling in a form, unit by unit: what the definition writes for a UTF-8 value without NUL is such a spelling. All that the two
-- forms differ by in a unit, in reading back, in length and in bytes, is in the records here. Openings and spellings differ too: `FormText`
-- has them. Assumes nothing.
use mathlib.Core.Path.{◌≡◌}
use mathlib.Core.Bool.{Bool, true, false}
use mathlib.Core.List.{List, [], ◌∷◌, ◌++◌}
use Prim.Native.Nat.{ℕ, ◌+◌, ◌-◌, ◌*◌, ◌≤◌, ◌<◌}
use lib.Dec.{leb, ltb}
use lib.ListN.{length}
use Rattle.meaning.specs.declared.Form.{Form}
use Rattle.meaning.specs.declared.Form.TheVariants.{Escape, Unicode}
use Rattle.meaning.specs.Bytes.{within, quote, backslash}
use Rattle.std.specs.Prelude.{if◌then◌else◌}
use Rattle.meaning.specs.Chars.{Due, pushes}
use Rattle.meaning.specs.Walk.{Step, give}
use Rattle.meaning.specs.Steps.{escape_table, escape_step, unicode_step, closing_step}
use Rattle.meaning.specs.Forms.{letter_of, is_doubled}
use Rattle.laws.proofs.walking.Walks.{Exact}
use Rattle.laws.proofs.utf8.Utf8.{Good}

-- the step that reads a form's body
abbrev pub read_step : Form → List ℕ → Step
read_step Escape = escape_step
read_step Unicode = unicode_step (backslash ∷ []) quote

-- the bytes that a form's text may hold
abbrev pub shows : Form → ℕ → Bool
shows Escape b = leb 0x20 b
shows Unicode b = within 0x20 0x7E b

-- HOW LONG, byte by byte: a later byte of a character costs nothing, since its first byte has paid
unfoldable pub form_cost : Form → ℕ → ℕ
form_cost Escape b = if is_doubled b then 2 else if ltb (letter_of escape_table b) 256 then 2 else if ltb b 0x20 then 4 else 1
form_cost Unicode b =
    if is_doubled b then 2 else if within 0x20 0x7E b then 1 else if within 0x80 0xBF b then 0 else if leb 0xF0 b then 8 else 5

abbrev pub form_costs : Form → List ℕ → ℕ
form_costs f [] = 0
form_costs f (b ∷ v) = form_cost f b + form_costs f v

-- a byte of the value costs no more
abbrev pub most : Form → ℕ
most Escape = 4
most Unicode = 5

abbrev pub Every : (ℕ → Bool) → List ℕ → Type 0
Every q [] = Unit {0}
Every q (b ∷ t) = (q b ≡ true) × Every q t

-- a byte that stands for itself
pub record Itself (f : Form) (b : ℕ) : Type 0 where
  pub visible : shows f b ≡ true
  pub single : is_doubled b ≡ false

-- bytes p that are spelled by out: read as p whatever follows; passed by the search for the closing mark, whether a backslash hides or not; of the same UTF-8
pub record Spelled (f : Form) (p out : List ℕ) : Type 0 where
  pub reads : (t : List ℕ) → read_step f (out ++ t) ≡ give (length out - 1) p
  pub passed : (hides : Bool) → Exact (closing_step hides quote) out
  pub pushed : (d : Due) → Good d → pushes d out ≡ pushes d p
  pub visible : Every (within 0x20 0x7E) out
  pub longer : length p < length out
  pub counted : length out ≡ form_costs f p
  pub bounded : length out ≤ most f * length p

-- a value, and its spelling
pub data Units (f : Form) : List ℕ → List ℕ → Type 0 where
  over : Units f [] []
  itself : {b : ℕ} {v u : List ℕ} → Itself f b → Units f v u → Units f (b ∷ v) (b ∷ u)
  spelled : {p v out u : List ℕ} → Spelled f p out → Units f v u → Units f (p ++ v) (out ++ u)
