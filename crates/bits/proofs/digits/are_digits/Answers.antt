-- `bits::digits::are_digits` meets its contract. Assumes nothing.
use Rattle.std.proofs.Common.{◌∙◌, rules}
use borrow.Author.Tests.{tests}
use lib.Dec.{ltb}
use Rattle.std.proofs.lemmas.Iterator.{YieldsList-from_slice}
use Rattle.std.proofs.lemmas.Iterator.Search.{all_from_yields_List}
use Rattle.meaning.specs.Bytes.{digit}
use Rattle.bits.proofs.Asking.{asked_all}
use Rattle.bits.proofs.digits.are_digits.Goals as goal

pub returns : goal.returns
returns c =
    all_from_yields_List (λ b. ltb (digit b) c.args.base) _ _ _ c.all.ensures.ran (YieldsList-from_slice c.args.bytes.now cc) (λ x b q k. search (rules, tests))
    ∙ asked_all c.args.base c.args.bytes.now
