-- `leaves::words::eight_run` meets its contract. The flags of both bytes tell the first of either, and its place is an eighth of the zeros below it.
-- Assumes nothing.
use Rattle.std.proofs.Common.{◌+◌, ◌≤◌, ◌∙◌, ap, length, take, arith}
use Rattle.leaves.proofs.RunSteps.{rest_all, rest_length}
use Rattle.leaves.proofs.WordFlags.{eight_short, eight_told, word_at}
use Rattle.leaves.proofs.words.eight_run.Goals as goal

pub returns-then-text-at : goal.returns-then-text-at
returns-then-text-at c = eight_short _ _ _ (omega (arith, c.if-text-at.true))

pub returns-in_default : goal.returns-in_default
returns-in_default c = eight_short _ _ _ (omega (arith, c.if-text-at.false, c.in_default.ensures.cases, rest_length c.args.at c.args.text.now))

pub returns : goal.returns
returns c =
    let l : c.args.at + 8 ≤ length c.args.text.now = omega (arith, c.if-text-at.false, c.in-Some.ensures.cases, rest_length c.args.at c.args.text.now) in
    let e = c.in-Some.ensures.cases.same ∙ ap (take 8) (rest_all c.args.at c.args.text.now) in
    eight_told _ _ _ _ _ _ _ l (word_at _ _ _ _ l c.type_inv.text e c.from_le_bytes-word.ensures) c.flags.ensures c.flags-2.ensures
