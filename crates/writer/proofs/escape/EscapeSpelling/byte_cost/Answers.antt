-- `writer::escape::Escape::byte_cost` meets its contract. Assumes nothing.
use Rattle.writer.proofs.Costs.{escape_sum_lem}
use Rattle.writer.proofs.escape.EscapeSpelling.byte_cost.Goals as goal

pub returns : goal.returns
returns c = search escape_sum_lem
