-- `questions::dates::read_date` meets its contract: the day is that of what is shown. Assumes nothing.
use Rattle.std.specs.Prelude.{◌≡◌, Err}
use Rattle.std.proofs.Common.{ap, ◌∙◌}
use Rattle.meaning.specs.declared.ReadRefusal.TheVariants as ReadRefusal'
use Rattle.questions.proofs.Dating.{date_shown, date_stopped, date_long}
use borrow.Author.Rules.{rules}
use Rattle.questions.proofs.dates.read_date.Goals as goal

pub returns-in-Ok : goal.returns-in-Ok
returns-in-Ok c = search date_shown

pub returns-in-Err-At : goal.returns-in-Err-At
returns-in-Err-At c =
    let e : c.in-Err-At.field-0 ≡ ReadRefusal'.At c.in-Err-At.place = rw c.in-Err-At.is at c.in-Err-At.field-0-is in
    search (date_stopped, c.in-Err-At.is ∙ ap Err e)

pub returns-in-Err-NoRoom : goal.returns-in-Err-NoRoom
returns-in-Err-NoRoom c =
    let e : c.in-Err-NoRoom.field-0 ≡ ReadRefusal'.NoRoom c.in-Err-NoRoom.field-0-0 = rw c.in-Err-NoRoom.is at c.in-Err-NoRoom.field-0-is in
    search (date_long, c.in-Err-NoRoom.is ∙ ap Err e)
