-- `escapes::digits::hex_pairs` meets its contract. The loop's invariant: whether each byte so far is a digit, and their number. Assumes nothing.
use Rattle.escapes.proofs.Hexes.{hex_past, hex_short, hexing_turn, hexing_adds, hexing_scales, hexing_fits, hexing_all, hexing_some}
use Rattle.escapes.proofs.digits.hex_pairs.Goals as goal

pub returns-then-body-at : goal.returns-then-body-at
returns-then-body-at g c = search hex_past

pub returns-then-body-at-2 : goal.returns-then-body-at-2
returns-then-body-at-2 g c = search hex_short

pub overflow_mul-value : goal.overflow_mul-value
overflow_mul-value g c = search hexing_scales

pub overflow_add-value-in-loop-i : goal.overflow_add-value-in-loop-i
overflow_add-value-in-loop-i g c = search hexing_adds

pub loop-i-preserved : goal.loop-i-preserved
loop-i-preserved g c = search hexing_turn

pub overflow_cast-result : goal.overflow_cast-result
overflow_cast-result g c = search hexing_fits

pub returns-then-whole : goal.returns-then-whole
returns-then-whole g c = search hexing_all

pub returns : goal.returns
returns g c = search hexing_some
