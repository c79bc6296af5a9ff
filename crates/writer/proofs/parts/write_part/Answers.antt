-- `writer::parts::write_part` meets its contract: the part's text, and behind it what is to stand there. Assumes nothing.
use Rattle.writer.proofs.PartWriting.{both_put}
use Rattle.writer.proofs.parts.write_part.Goals as goal

pub returns : goal.returns
returns c = search both_put
