-- `spellings::spelling::dollar_open_delim_len` meets its contract. A $ and a tag behind it lie inside the text, so no sum wraps. Assumes nothing.
use Prim.Native.Nat.{◌+◌, ◌≤◌}
use native.Mathlib.Omega.{arith}
use lib.ListN.{length}
use Rattle.spellings.proofs.Dollars.{delimiter_none, tag_inside, delimiter_open, delimiter_closed}
use Rattle.spellings.proofs.spelling.dollar_open_delim_len.Goals as goal

pub returns-then-byte_at-ne36 : goal.returns-then-byte_at-ne36
returns-then-byte_at-ne36 c = search delimiter_none

pub overflow_add-from-2 : goal.overflow_add-from-2
overflow_add-from-2 c = let tagged_here : c.args.at + 1 + c.tag_len-tag.result ≤ length c.args.text.now = search tag_inside in
    omega (arith, tagged_here)

pub returns-then-byte_at-ne36-2 : goal.returns-then-byte_at-ne36-2
returns-then-byte_at-ne36-2 c = search delimiter_open

pub returns : goal.returns
returns c = search delimiter_closed
