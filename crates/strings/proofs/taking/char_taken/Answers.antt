-- `strings::taking::char_taken` meets its contract. The loop's invariant: n bytes are spelled by the first `at` of the text; each way out has its law. Assumes nothing.
use Rattle.strings.proofs.TakenUnits.{takes_none}
use Rattle.strings.proofs.SpelledBytes.{spelled_none, spelled_there, spelled_more, spelled_takes}
use Rattle.strings.proofs.Lending.{place_fits}
use Rattle.strings.proofs.taking.char_taken.Goals as goal

pub loop-n-init : goal.loop-n-init
loop-n-init c = search spelled_none

pub returns-then-raw-eq0 : goal.returns-then-raw-eq0
returns-then-raw-eq0 c = search takes_none

pub overflow_add-at : goal.overflow_add-at
overflow_add-at c = search (place_fits, spelled_there)

pub returns-then-is_whole : goal.returns-then-is_whole
returns-then-is_whole c = search spelled_takes

pub loop-n-preserved : goal.loop-n-preserved
loop-n-preserved c = search spelled_more

pub returns : goal.returns
returns c = search takes_none
