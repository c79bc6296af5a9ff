-- `numbers::int64::read_spelled` meets its contract. Base ten reads the whole text, a radix what stands behind the prefix. Assumes nothing.
use Rattle.numbers.proofs.Prefixes.{sign_inside}
use Rattle.numbers.proofs.Texts.{base_known, rest_long}
use Rattle.numbers.proofs.Radixes.{radix_known}
use Rattle.numbers.proofs.Fitting.{i64_ten, i64_radix}
use Rattle.numbers.proofs.int64.read_spelled.Goals as goal

pub slice_bounds-rest-count : goal.slice_bounds-rest-count
slice_bounds-rest-count c = search sign_inside

pub slice_bounds-rest-start : goal.slice_bounds-rest-start
slice_bounds-rest-start c = search sign_inside

pub returns-then-base-eq10 : goal.returns-then-base-eq10
returns-then-base-eq10 c = search i64_ten

pub slice_bounds-read_radix-count : goal.slice_bounds-read_radix-count
slice_bounds-read_radix-count c = search rest_long

pub slice_bounds-read_radix-start : goal.slice_bounds-read_radix-start
slice_bounds-read_radix-start c = search rest_long

pub read_radix-requires : goal.read_radix-requires
read_radix-requires c = search (radix_known, base_known)

pub returns : goal.returns
returns c = search i64_radix
