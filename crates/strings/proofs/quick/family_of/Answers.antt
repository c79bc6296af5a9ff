-- `strings::quick::family_of` meets its contract. Assumes nothing.
use Rattle.strings.proofs.Families.{family_escape, family_unicode, family_standard}
use Rattle.strings.proofs.quick.family_of.Goals as goal

pub returns-then-first : goal.returns-then-first
returns-then-first c = search family_escape

pub returns-then-first-2 : goal.returns-then-first-2
returns-then-first-2 c = search family_unicode

pub returns : goal.returns
returns c = search family_standard
