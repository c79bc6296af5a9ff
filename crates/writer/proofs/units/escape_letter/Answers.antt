-- `writer::units::escape_letter` meets its contract: at each arm the table computes, and outside them it has no such byte. Assumes nothing.
use mathlib.Core.Path.{◌≡◌, ap, sym}
use Rattle.writer.specs.Manners.{letter_for}
use Rattle.writer.proofs.Spelled.{letter_outside, letter_last}
use Rattle.std.proofs.Common.{arith}
use Rattle.writer.proofs.units.escape_letter.Goals as goal

pub returns-in-8 : goal.returns-in-8
unfolding letter_for
returns-in-8 c = sym (ap letter_for c.in-8.is)

pub returns-in-9 : goal.returns-in-9
unfolding letter_for
returns-in-9 c = sym (ap letter_for c.in-9.is)

pub returns-in-10 : goal.returns-in-10
unfolding letter_for
returns-in-10 c = sym (ap letter_for c.in-10.is)

pub returns-in-12 : goal.returns-in-12
unfolding letter_for
returns-in-12 c = sym (ap letter_for c.in-12.is)

pub returns-in_default : goal.returns-in_default
unfolding letter_for
returns-in_default c =
    let left : c.args.byte ≡ 13 = search (letter_last, arith) in
    sym (ap letter_for left)

pub returns-then-not-byte : goal.returns-then-not-byte
returns-then-not-byte c = search letter_outside
