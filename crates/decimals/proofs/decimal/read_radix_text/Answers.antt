-- `decimals::decimal::read_radix_text` meets its contract. The bits of a number are printed as the number. Assumes nothing.
use Rattle.decimals.proofs.DecimalText.{radix_printed, radix_none}
use Rattle.decimals.proofs.decimal.read_radix_text.Goals as goal

pub returns-in-Some : goal.returns-in-Some
returns-in-Some c = search radix_printed

pub returns-in-None : goal.returns-in-None
returns-in-None c = search radix_none
