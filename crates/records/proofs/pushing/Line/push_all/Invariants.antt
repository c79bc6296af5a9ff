-- `records::pushing::Line::push_all` meets its contract. The loop's invariant: the bytes before the one at hand are put. Assumes nothing.
use Rattle.std.proofs.Common.{◌≡◌, take}
use Rattle.records.specs.Adding.{pushed}
use Rattle.records.proofs.pushing.Line.push_all.Given as goal

abbrev pub invariant-loop-byte : goal.invariant-loop-byte
invariant-loop-byte l = l.self ≡ pushed l.initial.self (take l.byte-index l.bytes)
