-- `strings::taking::escape_taken` meets its contract: each way out has its law. Assumes nothing.
use native.Mathlib.Omega.{arith}
use Rattle.strings.proofs.TakenUnits.{takes_none, escape_scalar, escape_four, escape_eight, escape_takes}
use Rattle.strings.proofs.taking.escape_taken.Goals as goal

pub returns-then-next-escapes : goal.returns-then-next-escapes
returns-then-next-escapes c = takes_none _ _ _ c.none.ensures

pub returns-then-escapes-next : goal.returns-then-escapes-next
returns-then-escapes-next c = search (escape_scalar 4 117 (omega arith) (omega arith) escape_four)

pub returns-then-escapes-next-2 : goal.returns-then-escapes-next-2
returns-then-escapes-next-2 c = search (escape_scalar 8 85 (omega arith) (omega arith) escape_eight)

pub returns : goal.returns
returns c = search escape_takes
