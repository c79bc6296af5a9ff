-- `words::asked_by` meets its contract. Assumes nothing.
use Rattle.std.proofs.Common.{sym, ◌∙◌, rules}
use Rattle.std.specs.Cmp.Lexicographic.{same_text, other_text}
use Rattle.words.proofs.Asking.{asks_work, asks_help, asks_other}
use Rattle.words.proofs.asked_by.Goals as goal

pub returns-then-is_empty : goal.returns-then-is_empty
returns-then-is_empty c = asks_work _ (search rules)

pub returns-then-eq : goal.returns-then-eq
returns-then-eq c = asks_help _ (same_text _ _ c.if-eq.ensures ∙ c.as_slice.ensures)

pub returns : goal.returns
returns c = asks_other _ (search rules) (λ e. other_text _ _ c.if-eq.ensures (e ∙ sym c.as_slice.ensures))
