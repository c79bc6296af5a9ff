-- `decimals::decimal::read_plain` meets its contract. The separators are counted before any byte is written. Assumes nothing.
use Rattle.decimals.proofs.DecimalText.{plain_misplaced, plain_borrowed, plain_within, plain_short, plain_room, plain_wrote}
use Rattle.decimals.proofs.decimal.read_plain.Goals as goal

pub returns-in_default : goal.returns-in_default
returns-in_default c = search plain_misplaced

pub returns-then-n-eq0 : goal.returns-then-n-eq0
returns-then-n-eq0 c = search plain_borrowed

pub overflow_sub-needed : goal.overflow_sub-needed
overflow_sub-needed c = search plain_within

pub returns-then-out-needed : goal.returns-then-out-needed
returns-then-out-needed c = search plain_short

pub copy_without-requires : goal.copy_without-requires
copy_without-requires c = search plain_room

pub returns : goal.returns
returns c = search plain_wrote
