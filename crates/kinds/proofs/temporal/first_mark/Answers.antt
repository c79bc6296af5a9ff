-- `kinds::temporal::first_mark` meets its contract. Assumes nothing.
use Rattle.std.proofs.Common.{◌≡◌, ◌∙◌, sym, true, false, refl, rules}
use borrow.Author.Tests.{tests}
use Rattle.std.proofs.lemmas.Iterator.{IsFirst-from_position, YieldsList-from_slice, index_from_first}
use Rattle.kinds.specs.Tokens.{unmarked, first_mark}
use Rattle.kinds.proofs.Finding.{mark_here, mark_more}
use Rattle.kinds.proofs.temporal.first_mark.Goals as goal

pub returns : goal.returns
returns c =
    c.unwrap_or.ensures
    ∙ sym (index_from_first first_mark (λ b. unmarked b ≡ false) (λ b. unmarked b ≡ true) refl mark_here mark_more _ _
    (IsFirst-from_position _ _ _ (λ b. unmarked b ≡ false) (λ b. unmarked b ≡ true) c.position.ensures.ran (YieldsList-from_slice c.args.text.now cc)
    (λ x q k. search (rules, tests)) (λ x q k. search (rules, tests))))
