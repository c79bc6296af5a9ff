-- `doubles::find_before` meets its contract. Assumes nothing.
use Rattle.std.proofs.Common.{arith, rules}
use Rattle.doubles.proofs.AllRows.{taken_none, taken_turn, taken_end, finds_no_head, finds_short_links, finds_short_befores}
use Rattle.doubles.proofs.find_before.Goals.{then-is_empty-via-then-is_empty, then-is_empty-via-else-is_empty+then-older-rows, then-is_empty-via-else-is_empty+else-older-rows+then-before-rows}
use Rattle.doubles.proofs.find_before.Goals as goal

pub returns-then-is_empty : goal.returns-then-is_empty
returns-then-is_empty c = elim c.then-is_empty.branch [
  | then-is_empty-via-then-is_empty w ↦ finds_no_head _ _ _ _ _ (search rules)
  | then-is_empty-via-else-is_empty+then-older-rows w ↦ search finds_short_links
  | then-is_empty-via-else-is_empty+else-older-rows+then-before-rows w ↦ search finds_short_befores
]

pub loop-row-init : goal.loop-row-init
loop-row-init c = taken_none _ _ _ _ _ _ (c.fill.ensures.after (λ y e. e)) (search rules) (search rules) (search rules)

pub loop-row-preserved : goal.loop-row-preserved
loop-row-preserved c = search taken_turn

pub returns : goal.returns
returns c = taken_end _ _ _ _ _ (c.fill.ensures.after (λ y e. e)) c.loop-row.invariant (omega arith)
