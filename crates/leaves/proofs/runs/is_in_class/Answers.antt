-- `leaves::runs::is_in_class` meets its contract, by what the two callees ensure. Assumes nothing.
use Rattle.leaves.proofs.RunSteps.{class_charset, class_tag}
use Rattle.leaves.proofs.runs.is_in_class.Goals as goal

pub returns-in-Charset : goal.returns-in-Charset
returns-in-Charset c = search class_charset

pub returns-in-DollarTag : goal.returns-in-DollarTag
returns-in-DollarTag c = search class_tag
