-- `leaves::runs::run_len` meets its contract: the first byte that is not of the class ends the run. Assumes nothing.
use Rattle.std.proofs.Common.{◌≡◌, ◌∙◌, ap, sym, true, false, refl, rules}
use borrow.Author.Tests.{tests}
use Rattle.std.proofs.lemmas.Iterator.{IsFirst-from_position, YieldsList-from_slice, index_from_first}
use Rattle.meaning.specs.Bytes.{span}
use Rattle.leaves.specs.Runs.{in_class}
use Rattle.leaves.proofs.RunSteps.{rest_all, run_past, span_hit, span_miss}
use Rattle.leaves.proofs.runs.run_len.Goals as goal

pub returns-then-text-at : goal.returns-then-text-at
returns-then-text-at c = search run_past

pub returns : goal.returns
returns c =
    let p = in_class c.args.class in
    c.unwrap_or.ensures
    ∙ sym (index_from_first (span p) (λ b. p b ≡ false) (λ b. p b ≡ true) refl (span_hit p) (span_miss p) _ _
    (IsFirst-from_position _ _ _ (λ b. p b ≡ false) (λ b. p b ≡ true) c.position.ensures.ran (YieldsList-from_slice _ cc)
    (λ x q k. search (rules, tests)) (λ x q k. search (rules, tests))))
    ∙ ap (span p) (rest_all c.args.at c.args.text.now)
