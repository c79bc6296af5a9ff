-- `decimals::separators::count_separators` meets its contract. Assumes nothing.
use Rattle.decimals.proofs.Separating.{pass_start, pass_other, pass_apart, pass_misplaced, pass_end}
use Rattle.decimals.proofs.separators.count_separators.Goals as goal
use Rattle.decimals.proofs.separators.count_separators.Goals.{then-byte-eq95+else-not-is_between, else-byte-eq95}

pub loop-place-init : goal.loop-place-init
loop-place-init c = search pass_start

pub returns-then-not-is_between : goal.returns-then-not-is_between
returns-then-not-is_between c = search pass_misplaced

pub loop-place-preserved : goal.loop-place-preserved
loop-place-preserved c = elim c.if-byte-eq95.branch [
  | then-byte-eq95+else-not-is_between w ↦ rw w.n-is (search (pass_apart, w.if-byte-eq95, w.is_between, w.if-not-is_between))
  | else-byte-eq95 w ↦ rw w.n-is (search (pass_other, w.if-byte-eq95))
]

pub returns : goal.returns
returns c = search pass_end
