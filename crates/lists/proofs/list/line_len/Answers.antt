-- `lists::list::line_len` stays within the text: a run is no longer than what it is looked for in. Assumes nothing.
use Rattle.std.proofs.Common.{arith}
use Rattle.lists.proofs.Running.{run_within}
use Rattle.lists.proofs.list.line_len.Goals as goal

pub returns : goal.returns
returns c = let h = run_within _ c.args.text.now 0 _ c.free_run.ensures (omega arith) in omega (arith, h)
