-- `strings::joined::read_joined` meets its contract. The loop's invariant, `Rounds`: the buffer is as it was lent, and room that is lent on is what was counted.
-- The measure: at most one round is still to come. Assumes nothing.
use Rattle.strings.proofs.Wholes.{round_first, round_part, round_short, round_written, round_less, round_again, round_refused}
use Rattle.std.proofs.lemmas.Result.{err_from_is_err_and}
use borrow.Author.Rules.{rules}
use Rattle.strings.proofs.joined.read_joined.Goals as goal

pub loop-len-init : goal.loop-len-init
loop-len-init c = search round_first

pub slice_bounds-put_segments-end : goal.slice_bounds-put_segments-end
slice_bounds-put_segments-end c = c.loop-len.invariant.fits

pub slice_bounds-put_segments-end-in-loop-len : goal.slice_bounds-put_segments-end-in-loop-len
slice_bounds-put_segments-end-in-loop-len c = search round_part

pub returns-then-out-len : goal.returns-then-out-len
returns-then-out-len c = search (round_short, rules, c.in_ok-len.was)

pub returns-then-room-len : goal.returns-then-room-len
returns-then-room-len c = search (round_written, rules, c.in_ok-len.was)

pub loop-len-smaller : goal.loop-len-smaller
loop-len-smaller c = search (round_less, rules, c.in_ok-len.was)

pub loop-len-preserved : goal.loop-len-preserved
loop-len-preserved c = search (round_again, rules, c.in_ok-len.was)

pub returns-in_err-len : goal.returns-in_err-len
returns-in_err-len c =
    let p = err_from_is_err_and c.from_residual.result c.from_residual.ensures.1 in
    rw (p.1, p.2) (search (round_refused, rules, c.in_err-len.was))
