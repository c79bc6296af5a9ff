-- How a value is spelled, between quote marks at a setting or by a form: the bytes that stand for themselves, the step of one character, what each byte costs,
-- and the text. Assumes nothing.
use Rattle.std.specs.Prelude.{Bool, true, false, ◌&&◌, ◌||◌, not, List, [], ◌∷◌, ◌++◌, ℕ, ◌+◌, eqb, leb, ltb, Option, Some, None}
use Rattle.meaning.specs.declared.Form.{Form}
use Rattle.meaning.specs.declared.Form.TheVariants as Form'
use Rattle.meaning.specs.Bytes.{quote, backslash}
use Rattle.std.specs.Prelude.{if◌then◌else◌}
use Rattle.meaning.specs.Chars.{width}
use Rattle.meaning.specs.Walk.{Step, keep, give, stop, walk, value}
use Rattle.meaning.specs.Steps.{escape_table}
use Rattle.meaning.specs.Writer.{spell}
use Rattle.meaning.specs.Forms.{letter_of, form_step, form_opening}
use Rattle.laws.proofs.writing.WriterText.{cost}
use Rattle.laws.proofs.writing.FormUnits.{form_cost}
use Rattle.writer.specs.declared.manners.Kept.{Kept}

-- between quote marks at a setting, or by a form
pub data Manner : Type 0 where
  Plain : Bool → Manner
  Escape : Manner
  Unicode : Manner

abbrev pub manner_of : Form → Manner
manner_of Form'.Escape = Escape
manner_of Form'.Unicode = Unicode

abbrev pub kept_by : Manner → Kept
kept_by (Plain bs) = record { low = if bs then 1 else 0; wide = true; other = if bs then backslash else quote }
kept_by Escape = record { low = 0x20; wide = true; other = backslash }
kept_by Unicode = record { low = 0x20; wide = false; other = backslash }

unfoldable pub keeps : Kept → ℕ → Bool
keeps k b = leb k.low b && (leb b 0x7E || k.wide) && not (eqb b quote) && not (eqb b k.other)

-- how the character at a value's front is spelled
abbrev pub step_by : Manner → List ℕ → Step
step_by m [] = stop
step_by (Plain bs) (b ∷ v) = if keeps (kept_by (Plain bs)) b then keep else give 0 (spell bs b)
step_by Escape (b ∷ v) = form_step Form'.Escape (b ∷ v)
step_by Unicode (b ∷ v) = form_step Form'.Unicode (b ∷ v)

-- the bytes of a unit that does not stand for itself; and how many bytes of the value it takes, by its first
abbrev pub given : Step → List ℕ
given keep = []
given (give n out) = out
given stop = []

abbrev pub unit_by : Manner → List ℕ → List ℕ
unit_by m v = given (step_by m v)

abbrev pub unit_width : Manner → ℕ → ℕ
unit_width (Plain bs) b = 1
unit_width Escape b = 1
unit_width Unicode b = width b

-- E's letter for a byte, where it has one
unfoldable pub letter_for : ℕ → Option ℕ
letter_for b = if ltb (letter_of escape_table b) 256 then Some (letter_of escape_table b) else None

abbrev pub cost_by : Manner → ℕ → ℕ
cost_by (Plain bs) b = cost bs b
cost_by Escape b = form_cost Form'.Escape b
cost_by Unicode b = form_cost Form'.Unicode b

abbrev pub costs_by : Manner → List ℕ → ℕ
costs_by m [] = 0
costs_by m (b ∷ v) = cost_by m b + costs_by m v

-- the text of a value that is spelled whole
abbrev pub opening_by : Manner → List ℕ
opening_by (Plain bs) = quote ∷ []
opening_by Escape = form_opening Form'.Escape
opening_by Unicode = form_opening Form'.Unicode

unfoldable pub units_by : Manner → List ℕ → List ℕ
units_by m v = value (walk (step_by m) 0 v)

unfoldable pub text_by : Manner → List ℕ → List ℕ
text_by m v = opening_by m ++ (units_by m v ++ (quote ∷ []))
