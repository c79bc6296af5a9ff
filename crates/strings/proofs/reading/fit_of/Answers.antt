-- `strings::reading::fit_of` meets its contract, scan by scan. Assumes nothing.
use Rattle.strings.proofs.Fits.{fit_run, fit_other, fit_plain, fit_clean}
use Rattle.strings.proofs.reading.fit_of.Goals as goal

pub returns-then-is_plain_run : goal.returns-then-is_plain_run
returns-then-is_plain_run c = search fit_run

pub returns-then-not-is_clean : goal.returns-then-not-is_clean
returns-then-not-is_clean c = search fit_other

pub returns-then-is_plain : goal.returns-then-is_plain
returns-then-is_plain c = search fit_plain

pub returns : goal.returns
returns c = search fit_clean
