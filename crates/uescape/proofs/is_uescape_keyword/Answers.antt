-- `uescape::is_uescape_keyword` meets its contract. The loop's invariant: the word's first `i` bytes stand at `at` in upper case, and all of them have
-- room (`AlikeSoFar`). Assumes nothing.
use mathlib.Core.Path.{◌∙◌}
use native.Mathlib.Omega.{arith}
use Rattle.laws.proofs.basics.Alike.{alike_short, alike_none, alike_more, alike_not, alike_end}
use Rattle.uescape.proofs.Clausing.{upper_same, keyword_by, keyword_past}
use Rattle.uescape.proofs.is_uescape_keyword.Goals as goal

pub returns-then-text-at : goal.returns-then-text-at
returns-then-text-at c = search keyword_past

pub returns-then-text-at-lt7 : goal.returns-then-text-at-lt7
returns-then-text-at-lt7 c = search (keyword_by, alike_short)

pub loop-i-init : goal.loop-i-init
loop-i-init c = search alike_none

pub returns-then-to_ascii_uppercase-letter : goal.returns-then-to_ascii_uppercase-letter
returns-then-to_ascii_uppercase-letter c = search (
  keyword_by,
  alike_not _ _ _ _ _ c.loop-i.invariant (omega arith) _ (c.to_ascii_uppercase.ensures.value ∙ upper_same _) c.if-to_ascii_uppercase-letter.true,
)

pub loop-i-preserved : goal.loop-i-preserved
loop-i-preserved c = alike_more _ _ _ _ _ c.loop-i.invariant (omega arith) _ (c.to_ascii_uppercase.ensures.value ∙ upper_same _) c.if-to_ascii_uppercase-letter.false

pub returns : goal.returns
returns c = search (keyword_by, alike_end)
