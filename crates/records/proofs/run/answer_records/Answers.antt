-- `records::run::answer_records` meets its contract. Assumes nothing.
use Rattle.std.proofs.Common.{◌∙◌}
use Rattle.records.proofs.Filling.{answered_turn, answered_end}
use Rattle.records.proofs.run.answer_records.Goals as goal

pub loop-record-preserved : goal.loop-record-preserved
loop-record-preserved c =
    let s = c.in-Some.ensures.steps in
    (answered_turn c.loop-record.invariant.0 c.requires _ _ _ c.loop-record.invariant.1 s.1.0 s.1.1 s.1.2 _ _ c.record_line-full.ensures, s.0 ∙ c.loop-record.invariant.1)

pub returns : goal.returns
returns c = answered_end c.loop-record.invariant.0 c.in-None.ensures.steps.1.0
