-- `strings::reading::try_string` meets its contract, by how the text fits. Assumes nothing.
use Rattle.strings.proofs.Fits.{whole, fit_long, fit_tries, clean, quick_tries, other_unread, other_not}
use Rattle.strings.proofs.reading.try_string.Goals as goal

pub overflow_sub-until : goal.overflow_sub-until
overflow_sub-until c = search fit_long

pub read_quick-requires : goal.read_quick-requires
read_quick-requires c = clean _ _ _ c.fit_of.ensures c.in-Clean.is

pub returns-then-is_utf8 : goal.returns-then-is_utf8
returns-then-is_utf8 c = whole _ _ _ _ _ (search other_unread)

pub returns-in-Plain : goal.returns-in-Plain
returns-in-Plain c = whole _ _ _ _ _ (search fit_tries)

pub returns-in-Clean : goal.returns-in-Clean
returns-in-Clean c = whole _ _ _ _ _ (search quick_tries)

pub returns-else-is_utf8 : goal.returns-else-is_utf8
returns-else-is_utf8 c = whole _ _ _ _ _ (search other_not)
