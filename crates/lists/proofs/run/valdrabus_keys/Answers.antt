-- `lists::run::valdrabus_keys` meets its contract: the words' case is the one that is gone. Assumes nothing.
use Rattle.words.proofs.Asking.{ends_work, ends_help, ends_other}
use Rattle.lists.proofs.run.valdrabus_keys.Goals as goal

pub returns-in-Work : goal.returns-in-Work
returns-in-Work c = search ends_work

pub returns-in-Help : goal.returns-in-Help
returns-in-Help c = search ends_help

pub returns-in-Other : goal.returns-in-Other
returns-in-Other c = search ends_other
