-- `leaves::blocks::is_all` meets its contract. Assumes nothing.
use Rattle.std.proofs.Common.{◌∙◌, rules}
use borrow.Author.Tests.{tests}
use Rattle.std.proofs.lemmas.Iterator.{YieldsList-from_slice}
use Rattle.std.proofs.lemmas.Iterator.Search.{all_from_yields_List}
use Rattle.leaves.proofs.Chunks.{all_passes}
use Rattle.leaves.proofs.blocks.is_all.Goals as goal

pub returns : goal.returns
returns g c =
    all_from_yields_List (g.T.ByteTest.takes c.args.test.now) _ _ _ c.all.ensures.ran (YieldsList-from_slice c.args.text.now cc) (λ x b q k. search (rules, tests))
    ∙ all_passes (g.T.ByteTest.takes c.args.test.now) c.args.text.now
