-- `strings::taking::standard_taken` meets its contract: each way out has its law. Assumes nothing.
use Rattle.strings.proofs.TakenUnits.{takes_none, doubled_takes, standard_takes}
use Rattle.strings.proofs.taking.standard_taken.Goals as goal

pub returns-then-next-escapes : goal.returns-then-next-escapes
returns-then-next-escapes c = takes_none _ _ _ c.none.ensures

pub returns-then-not-backslash : goal.returns-then-not-backslash
returns-then-not-backslash c = search doubled_takes

pub returns : goal.returns
returns c = search standard_takes
