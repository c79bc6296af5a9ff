-- `numbers::prefix::split_radix_prefix` meets its contract. The code asks the length, the first byte and the second one. Assumes nothing.
use Rattle.numbers.proofs.Prefixes.{ten_short, ten_first, ten_second, radix_second}
use Rattle.numbers.proofs.prefix.split_radix_prefix.Goals as goal

pub returns-then-text-lt2 : goal.returns-then-text-lt2
returns-then-text-lt2 c = search ten_short

pub returns-then-text-ne48 : goal.returns-then-text-ne48
returns-then-text-ne48 c = search ten_first

pub returns-then-base-eq10 : goal.returns-then-base-eq10
returns-then-base-eq10 c = search ten_second

pub returns : goal.returns
returns c = search radix_second
