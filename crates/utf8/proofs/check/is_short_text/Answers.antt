-- `utf8::check::is_short_text` meets its contract: std's UTF-8 is that of the meaning. Assumes nothing.
use Rattle.utf8.proofs.StdUtf8.{told_yes, told_no}
use Rattle.utf8.proofs.check.is_short_text.Goals as goal

pub returns-in-Ok : goal.returns-in-Ok
returns-in-Ok c = told_yes c.args.bytes.now c.in-Ok.ensures.cases.1

pub returns-in-Err : goal.returns-in-Err
returns-in-Err c = told_no c.args.bytes.now c.in-Err.ensures.cases.0
