-- `strings::quick::is_string_letter` meets its contract. The code asks the letters in the order of the definition. Assumes nothing.
use mathlib.Core.Bool.{or_assoc, or-false}
use Rattle.strings.proofs.quick.is_string_letter.Goals as goal

pub returns : goal.returns
returns c = simp (or_assoc, or-false)
