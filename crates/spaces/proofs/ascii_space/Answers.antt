-- `spaces::ascii_space` meets its contract. Of the ten ranges, two hold ASCII. Assumes nothing.
use Rattle.std.proofs.Common.{◌∙◌}
use Rattle.spaces.proofs.Spacing.{blank_told}
use Rattle.spaces.proofs.ascii_space.Goals as goal

pub returns : goal.returns
returns c = c.from.ensures ∙ blank_told c.args.byte c.is_blank.result c.is_blank.ensures c.requires
