-- `strings::chunks::end_at` meets its contract, by the turn or by the two bytes behind it. Assumes nothing.
use Rattle.strings.proofs.ChunkTurns.{ends_more, ends_closed, ends_unread}
use Rattle.strings.proofs.chunks.end_at.Goals as goal

pub returns-then-not-ends : goal.returns-then-not-ends
returns-then-not-ends c = search ends_more

pub returns-then-text-at : goal.returns-then-text-at
returns-then-text-at c = search ends_unread

pub returns-then-text-at-2 : goal.returns-then-text-at-2
returns-then-text-at-2 c = search ends_closed

pub returns : goal.returns
returns c = search ends_unread
