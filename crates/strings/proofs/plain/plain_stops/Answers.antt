-- `strings::plain::plain_stops` meets its contract. The code is the definition. Assumes nothing.
use Rattle.strings.proofs.plain.plain_stops.Goals as goal

pub returns-then-settings : goal.returns-then-settings
returns-then-settings c = rw c.if-settings.true

pub returns : goal.returns
returns c = rw c.if-settings.false
