-- `records::pushing::put_hex` meets its contract. Assumes nothing.
use Rattle.records.proofs.Hexing.{hexed_none, hexed_turn, hexed_end}
use Rattle.records.proofs.pushing.put_hex.Goals as goal

pub loop-at-init : goal.loop-at-init
loop-at-init c = hexed_none _ _ c.requires

pub loop-at-preserved : goal.loop-at-preserved
loop-at-preserved c = search hexed_turn

pub returns : goal.returns
returns c = hexed_end c.loop-at.invariant c.loop-at-test.false
