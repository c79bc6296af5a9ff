-- [02 T-01] What the definition writes for a UTF-8 value without NUL spells the value, in either form. Assumes nothing.
use mathlib.Core.Path.{◌≡◌}
use mathlib.Core.Bool.{true, false}
use mathlib.Core.List.{List}
use Prim.Native.Nat.{ℕ}
use Rattle.meaning.specs.declared.Form.{Form}
use Rattle.meaning.specs.declared.Form.TheVariants.{Escape, Unicode}
use Rattle.meaning.specs.Bytes.{has}
use Rattle.meaning.specs.Chars.{utf8}
use Rattle.meaning.specs.Walk.{walk, value}
use Rattle.meaning.specs.Forms.{form_step}
use Rattle.laws.proofs.writing.FormUnits.{Units}
use Rattle.laws.proofs.writing.EscapeUnits.{escape_units}
use Rattle.laws.proofs.writing.UnicodeUnits.{unicode_units}

pub units_of : (f : Form) (v : List ℕ) → utf8 v ≡ true → has 0 v ≡ false → Units f v (value (walk (form_step f) 0 v))
units_of Escape v valid h = escape_units v h
units_of Unicode v valid h = unicode_units v valid h
