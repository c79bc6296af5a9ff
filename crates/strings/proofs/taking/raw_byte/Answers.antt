-- `strings::taking::raw_byte` meets its contract: each way out has its law. Assumes nothing.
use Rattle.strings.proofs.TakenUnits.{raws_none, raws_byte, raws_there}
use Rattle.strings.proofs.Lending.{place_fits}
use Rattle.strings.proofs.taking.raw_byte.Goals as goal

pub overflow_add-result : goal.overflow_add-result
overflow_add-result c = search (place_fits, raws_there)

pub returns-in-Byte : goal.returns-in-Byte
returns-in-Byte c = search raws_byte

pub returns-in_default : goal.returns-in_default
returns-in_default c = search raws_none

pub returns-else-byte_at-is_octal : goal.returns-else-byte_at-is_octal
returns-else-byte_at-is_octal c = search raws_none
