-- `decimals::decimal::read_decimal` meets its contract. Base ten reads the whole text, a radix what stands behind the prefix. Assumes nothing.
use Rattle.numbers.proofs.Prefixes.{sign_inside}
use Rattle.numbers.proofs.Texts.{base_known, rest_long}
use Rattle.numbers.proofs.Radixes.{radix_known}
use Rattle.decimals.proofs.DecimalText.{decimal_ten, decimal_radix}
use Rattle.decimals.proofs.decimal.read_decimal.Goals as goal

pub slice_bounds-rest-count : goal.slice_bounds-rest-count
slice_bounds-rest-count c = search sign_inside

pub slice_bounds-rest-start : goal.slice_bounds-rest-start
slice_bounds-rest-start c = search sign_inside

pub returns-then-base-eq10 : goal.returns-then-base-eq10
returns-then-base-eq10 c = search decimal_ten

pub slice_bounds-read_radix_text-count : goal.slice_bounds-read_radix_text-count
slice_bounds-read_radix_text-count c = search rest_long

pub slice_bounds-read_radix_text-start : goal.slice_bounds-read_radix_text-start
slice_bounds-read_radix_text-start c = search rest_long

pub read_radix_text-requires : goal.read_radix_text-requires
read_radix_text-requires c = search (radix_known, base_known)

pub returns : goal.returns
returns c = search decimal_radix
