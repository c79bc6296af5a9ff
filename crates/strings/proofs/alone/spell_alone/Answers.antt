-- `strings::alone::spell_alone` meets its contract, by the NUL and the spelling. Assumes nothing.
use Rattle.strings.proofs.Bodies.{alone_nul, alone_spelled}
use Rattle.strings.proofs.alone.spell_alone.Goals as goal

pub returns-then-string_literal_embeds_nul : goal.returns-then-string_literal_embeds_nul
returns-then-string_literal_embeds_nul c = search alone_nul

pub returns : goal.returns
returns c = search alone_spelled
