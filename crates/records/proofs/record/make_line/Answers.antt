-- `records::record::make_line` meets its contract. Assumes nothing.
use mathlib.Core.Path.{sym, ◌∙◌}
use Rattle.records.proofs.Goods.{good_facts, bad_line}
use Rattle.records.proofs.record.make_line.Goals as goal

pub good_line-requires : goal.good_line-requires
good_line-requires c = good_facts _ (sym c.is_good_record.ensures ∙ c.if-is_good_record.true)

pub returns : goal.returns
returns c = bad_line c.args.to.now _ _ (sym c.is_good_record.ensures ∙ c.if-is_good_record.false) c.bare_line.ensures
