-- `decimals::separators::is_between` meets its contract. Past either end stands no digit. Assumes nothing.
use Rattle.decimals.proofs.Separating.{between_first, between_last, between_both}
use Rattle.decimals.proofs.separators.is_between.Goals as goal

pub returns-then-at-eq0 : goal.returns-then-at-eq0
returns-then-at-eq0 c = search between_first

pub returns-then-text-next : goal.returns-then-text-next
returns-then-text-next c = search between_last

pub returns : goal.returns
returns c = search between_both
