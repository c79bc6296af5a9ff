-- `numbers::int64::read_signed` meets its contract. The digits stand behind the sign, and a number with a high half is above 2^63. Assumes nothing.
use Rattle.numbers.proofs.Prefixes.{sign_inside}
use Rattle.numbers.proofs.Fitting.{signed_value, signed_refused, signed_wide}
use Rattle.numbers.proofs.int64.read_signed.Goals as goal

pub slice_bounds-read_radix_digits-count : goal.slice_bounds-read_radix_digits-count
slice_bounds-read_radix_digits-count c = search sign_inside

pub slice_bounds-read_radix_digits-start : goal.slice_bounds-read_radix_digits-start
slice_bounds-read_radix_digits-start c = search sign_inside

pub returns-in_default : goal.returns-in_default
returns-in_default c = search signed_refused

pub returns-then-hi-ne0 : goal.returns-then-hi-ne0
returns-then-hi-ne0 c = search signed_wide

pub returns : goal.returns
returns c = search signed_value
