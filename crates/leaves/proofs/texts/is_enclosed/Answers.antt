-- `leaves::texts::is_enclosed` meets its contract. Where there is room for two marks, the code asks what the definition asks. Assumes nothing.
use Rattle.laws.proofs.basics.Enclosures.{encloses_past, encloses_short, encloses_by}
use Rattle.leaves.proofs.texts.is_enclosed.Goals as goal

pub returns-then-text-at : goal.returns-then-text-at
returns-then-text-at c = search encloses_past

pub returns-then-text-at-lt2 : goal.returns-then-text-at-lt2
returns-then-text-at-lt2 c = search encloses_short

pub returns : goal.returns
returns c = search encloses_by
