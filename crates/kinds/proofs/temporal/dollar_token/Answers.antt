-- `kinds::temporal::dollar_token` meets its contract. Assumes nothing.
use Rattle.std.proofs.Common.{◌+◌, ◌≤◌, length, arith}
use Rattle.kinds.proofs.Tokens.{dollar_none, delimiter_inside, dollar_open, dollar_closed, dollar_inside}
use Rattle.kinds.proofs.temporal.dollar_token.Goals as goal

pub returns-then-len-eq0 : goal.returns-then-len-eq0
returns-then-len-eq0 c = search dollar_none

pub overflow_add-body : goal.overflow_add-body
overflow_add-body c = let begun : c.args.at + c.dollar_open_delim_len-len.result ≤ length c.args.text.now = search delimiter_inside in
    omega (arith, begun)

pub slice_bounds-found_from-end : goal.slice_bounds-found_from-end
slice_bounds-found_from-end c = search delimiter_inside

pub returns-in_err-found : goal.returns-in_err-found
returns-in_err-found c = rw c.from_residual.ensures (search (dollar_open, c.in_err-found.was))

pub overflow_add-result : goal.overflow_add-result
overflow_add-result c = let closed : c.args.at + c.dollar_open_delim_len-len.result + c.in_ok-found.found + c.dollar_open_delim_len-len.result
    ≤ length c.args.text.now = search (dollar_inside, c.in_ok-found.was) in
    omega (arith, closed)

pub overflow_add-result-2 : goal.overflow_add-result-2
overflow_add-result-2 c = let closed : c.args.at + c.dollar_open_delim_len-len.result + c.in_ok-found.found + c.dollar_open_delim_len-len.result
    ≤ length c.args.text.now = search (dollar_inside, c.in_ok-found.was) in
    omega (arith, closed)

pub returns : goal.returns
returns c = search (dollar_closed, c.in_ok-found.was)
