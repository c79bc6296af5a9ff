-- `strings::taking::mysql_byte` meets its contract: six choices, as the table has them. Assumes nothing.
use Rattle.strings.proofs.TakenUnits.{mysql_of_lem}
use Rattle.strings.proofs.taking.mysql_byte.Goals as goal

pub returns : goal.returns
returns c = search mysql_of_lem
