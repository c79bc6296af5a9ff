-- `writer::plain::Plain::byte_cost` meets its contract. Assumes nothing.
use Rattle.writer.proofs.Costs.{plain_sum}
use Rattle.writer.proofs.plain.PlainSpelling.byte_cost.Goals as goal

pub returns : goal.returns
returns c = search plain_sum
