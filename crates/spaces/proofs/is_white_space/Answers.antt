-- `spaces::is_white_space` meets its contract: the table is that of the definition. Assumes nothing.
use Rattle.std.proofs.Common.{rules}
use borrow.Author.Tests.{tests}
use Rattle.std.proofs.lemmas.Iterator.{YieldsList-from_slice}
use Rattle.std.proofs.lemmas.Iterator.Search.{any_from_yields_List}
use Rattle.meaning.specs.Bytes.{within}
use Rattle.meaning.specs.Chars.{spaces, is_space}
use Rattle.spaces.proofs.is_white_space.Goals as goal

pub returns : goal.returns
unfolding within is_space
returns c =
    any_from_yields_List (λ r. within r.0 r.1 c.args.scalar) _ _ _ c.any.ensures.ran (YieldsList-from_slice spaces cc) (λ x r q k. search (rules, tests))
