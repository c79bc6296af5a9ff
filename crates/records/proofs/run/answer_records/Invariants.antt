-- `records::run::answer_records` meets its contract. The loop's invariant: the lines of the records before those that are left are put. Assumes nothing.
use Rattle.std.proofs.Common.{◌≡◌}
use Rattle.std.specs.Slice.Iter.{chunks_rest, chunks_size}
use Rattle.records.proofs.Filling.{Answered}
use Rattle.records.proofs.run.answer_records.Given as goal

abbrev pub invariant-loop-record : goal.invariant-loop-record
invariant-loop-record l = Answered l.input l.initial.output l.output (chunks_rest l.record-iterator) l.full × (chunks_size l.record-iterator ≡ 64)
