-- `valdrabus::told::refusal_told` meets its contract, by the refusal. Assumes nothing.
use Rattle.valdrabus.proofs.Telling.{refusal_by, wrong_kind}
use Rattle.valdrabus.proofs.told.refusal_told.Goals as goal

pub returns-in-WrongKind : goal.returns-in-WrongKind
returns-in-WrongKind c = search wrong_kind

pub returns-in-MissingSource : goal.returns-in-MissingSource
returns-in-MissingSource c = search refusal_by

pub returns-in-InvalidSourceRange : goal.returns-in-InvalidSourceRange
returns-in-InvalidSourceRange c = search refusal_by

pub returns-in-NotUtf8 : goal.returns-in-NotUtf8
returns-in-NotUtf8 c = search refusal_by

pub returns-in-InvalidInteger : goal.returns-in-InvalidInteger
returns-in-InvalidInteger c = search refusal_by

pub returns-in-InvalidString : goal.returns-in-InvalidString
returns-in-InvalidString c = search refusal_by

pub returns-in-InvalidBitString : goal.returns-in-InvalidBitString
returns-in-InvalidBitString c = search refusal_by

pub returns-in-InvalidMoney : goal.returns-in-InvalidMoney
returns-in-InvalidMoney c = search refusal_by

pub returns-in-NoRoom : goal.returns-in-NoRoom
returns-in-NoRoom c = search refusal_by

pub returns-in-InvalidDate : goal.returns-in-InvalidDate
returns-in-InvalidDate c = search refusal_by
