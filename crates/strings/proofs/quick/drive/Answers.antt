-- `strings::quick::drive` meets its contract. The loop's invariant, `Going`: what the segments so far mean, and where it is stored. The measure is what is left of
-- the text. Assumes nothing.
use Rattle.strings.proofs.SegmentTurns.{going_none, going_less, going_more, drives_first, drives_not, drives_joined}
use Rattle.strings.proofs.quick.drive.Goals as goal

pub loop-at-init : goal.loop-at-init
loop-at-init c = search going_none

pub returns-then-segment-at : goal.returns-then-segment-at
returns-then-segment-at c = search drives_first

pub returns-then-at-is_mark : goal.returns-then-at-is_mark
returns-then-at-is_mark c = search drives_not

pub returns-then-text-segment : goal.returns-then-text-segment
returns-then-text-segment c = search drives_joined

pub loop-at-smaller : goal.loop-at-smaller
loop-at-smaller c = search going_less

pub loop-at-preserved : goal.loop-at-preserved
loop-at-preserved c = search going_more
