-- `records::pushing::Line::push_hex` meets its contract. The loop's invariant: the digits of the bytes before the one at hand are put. Assumes nothing.
use Rattle.std.proofs.Common.{◌≡◌, take}
use Rattle.meaning.specs.Records.{hex_of}
use Rattle.records.specs.Adding.{pushed}
use Rattle.records.proofs.pushing.Line.push_hex.Given as goal

abbrev pub invariant-loop-byte : goal.invariant-loop-byte
invariant-loop-byte l = l.self ≡ pushed l.initial.self (hex_of (take l.byte-index l.text))
