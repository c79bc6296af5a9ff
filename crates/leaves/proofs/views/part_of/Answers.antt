-- `leaves::views::part_of` meets its contract. Assumes nothing.
use Rattle.leaves.proofs.Shown.{part_fits, part_backwards, part_past}
use Rattle.leaves.proofs.views.part_of.Goals as goal

pub returns-then-until-from : goal.returns-then-until-from
returns-then-until-from c = search part_backwards

pub returns-then-bytes-until : goal.returns-then-bytes-until
returns-then-bytes-until c = search part_past

pub returns : goal.returns
returns c = search part_fits
