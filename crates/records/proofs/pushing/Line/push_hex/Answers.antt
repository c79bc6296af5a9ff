-- `records::pushing::Line::push_hex` meets its contract. Assumes nothing.
use Rattle.records.proofs.Hexing.{hex_turn}
use Rattle.records.proofs.pushing.Line.push_hex.Goals as goal

pub loop-byte-preserved : goal.loop-byte-preserved
loop-byte-preserved c = search hex_turn
