-- `writer::unicode::Unicode::byte_cost` meets its contract. Assumes nothing.
use Rattle.writer.proofs.Costs.{unicode_sum_lem}
use Rattle.writer.proofs.unicode.UnicodeSpelling.byte_cost.Goals as goal

pub returns : goal.returns
returns c = search unicode_sum_lem
