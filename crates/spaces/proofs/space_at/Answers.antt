-- `spaces::space_at` meets its contract. The ways are the laws of `Spacing`. Assumes nothing.
use Rattle.spaces.proofs.Spacing.{space_none, space_ascii, space_yes, space_no}
use Rattle.spaces.proofs.space_at.Goals as goal

pub returns-then-text-at : goal.returns-then-text-at
returns-then-text-at c = search space_none

pub returns-then-byte-lt128 : goal.returns-then-byte-lt128
returns-then-byte-lt128 c = search space_ascii

pub returns-then-is_white_space : goal.returns-then-is_white_space
returns-then-is_white_space c = search space_yes

pub returns : goal.returns
returns c = search space_no
