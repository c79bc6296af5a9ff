-- `strings::taking::take_unit` meets its contract: in each arm the family is known. Assumes nothing.
use Rattle.strings.proofs.taking.take_unit.Goals as goal

pub returns-in-Standard : goal.returns-in-Standard
returns-in-Standard c = rw c.in-Standard.is c.standard_taken.ensures

pub returns-in-Escape : goal.returns-in-Escape
returns-in-Escape c = rw c.in-Escape.is c.escape_taken.ensures

pub returns-in-Unicode : goal.returns-in-Unicode
returns-in-Unicode c = rw c.in-Unicode.is c.unicode_taken.ensures
