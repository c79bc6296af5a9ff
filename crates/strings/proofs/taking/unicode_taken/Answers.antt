-- `strings::taking::unicode_taken` meets its contract: each way out has its law. Assumes nothing.
use Rattle.strings.proofs.TakenUnits.{half_bounds, takes_none, unicode_takes, unicode_six, unicode_pair, unicode_four}
use Rattle.strings.proofs.taking.unicode_taken.Goals as goal

pub returns-then-byte-next : goal.returns-then-byte-next
returns-then-byte-next c = search unicode_takes

pub returns-then-byte-ne92 : goal.returns-then-byte-ne92
returns-then-byte-ne92 c = takes_none _ _ _ c.none.ensures

pub returns-then-next-eq43 : goal.returns-then-next-eq43
returns-then-next-eq43 c = search unicode_six

pub pair_taken-requires : goal.pair_taken-requires
pair_taken-requires c = half_bounds _ _ _ c.if-value.true

pub returns-then-value : goal.returns-then-value
returns-then-value c = search unicode_pair

pub returns : goal.returns
returns c = search unicode_four
