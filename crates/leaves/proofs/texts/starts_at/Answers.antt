-- `leaves::texts::starts_at` meets its contract: what is asked of the slice is so of the text behind the place (`there`). Assumes nothing.
use Rattle.std.proofs.Common.{◌≡◌, ℕ, ◌-◌, Bool, List, length, take, drop, arith, length-drop}
use Rattle.meaning.specs.Bytes.{starts}
use Rattle.leaves.proofs.RunSteps.{rest_all}
use Rattle.leaves.proofs.Starts.{starts_none, starts_there, starts_short, starts_other, front_first, front_more, front_not, front_alone, front_rest}
use Rattle.leaves.proofs.texts.starts_at.Goals as goal

there : (p b : List ℕ) (at : ℕ) (r : Bool) → r ≡ starts p (take (length b - at) (drop at b)) → r ≡ starts p (drop at b)
there p b at r = starts_there p (drop at b) (take (length b - at) (drop at b)) r (rest_all at b)

pub returns-then-body-at : goal.returns-then-body-at
returns-then-body-at c = starts_none c.args.prefix.now (drop c.args.at c.args.body.now) (omega (arith, length-drop c.args.at c.args.body.now))

pub returns-then-byte_at : goal.returns-then-byte_at
returns-then-byte_at c = there c.args.prefix.now c.args.body.now c.args.at _ (search starts_other)

pub returns-then-text-prefix : goal.returns-then-text-prefix
returns-then-text-prefix c = there c.args.prefix.now c.args.body.now c.args.at _ (search starts_short)

pub loop-place-init : goal.loop-place-init
loop-place-init c = search front_first

pub returns-then-byte_at-prefix : goal.returns-then-byte_at-prefix
returns-then-byte_at-prefix c = there c.args.prefix.now c.args.body.now c.args.at _ (search front_not)

pub loop-place-preserved : goal.loop-place-preserved
loop-place-preserved c = search front_more

pub returns-then-prefix-le-FRONT : goal.returns-then-prefix-le-FRONT
returns-then-prefix-le-FRONT c = there c.args.prefix.now c.args.body.now c.args.at _ (search front_alone)

pub returns-else-prefix-le-FRONT : goal.returns-else-prefix-le-FRONT
returns-else-prefix-le-FRONT c = there c.args.prefix.now c.args.body.now c.args.at _ (search front_rest)
