-- `uescape::later_bytes` meets its contract. The code is the definition. Assumes nothing.
use Rattle.std.proofs.Common.{rules}
use borrow.Author.Tests.{tests}
use Rattle.std.proofs.lemmas.Iterator.{YieldsList-from_slice}
use Rattle.std.proofs.lemmas.Iterator.Search.{all_from_yields_List}
use Rattle.meaning.specs.Bytes.{within}
use Rattle.uescape.proofs.later_bytes.Goals as goal

pub returns : goal.returns
unfolding within
returns c = all_from_yields_List (within 0x80 0xBF) _ _ _ c.all.ensures.ran (YieldsList-from_slice c.args.bytes.now cc) (λ x b q k. search (rules, tests))
