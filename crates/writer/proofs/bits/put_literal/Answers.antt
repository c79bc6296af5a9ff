-- `writer::bits::put_literal` meets its contract: the letter and a mark, the digits behind them, and the mark. Assumes nothing.
use Rattle.writer.proofs.BitTexts.{literal_put}
use Rattle.writer.proofs.bits.put_literal.Goals as goal

pub returns : goal.returns
returns c = search literal_put
