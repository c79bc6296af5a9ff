-- `utf8::places::fits_by` meets its contract. The loop's invariant, `Fitting`: all bytes before i fit, and three stand there. It ends where a block more would
-- pass the last one's start. Assumes nothing.
use Rattle.std.proofs.Common.{ap, not, arith}
use Rattle.utf8.proofs.PlaceScans.{fitting_three, fitting_passes, fitting_fails, fitting_last}
use Rattle.utf8.proofs.places.fits_by.Goals.{else-loop-i-test, then-loop-i-test+else-not-fits_block+else-n-last}
use Rattle.utf8.proofs.places.fits_by.Goals as goal

pub loop-i-init : goal.loop-i-init
loop-i-init c = search fitting_three

pub returns-then-not-fits_block : goal.returns-then-not-fits_block
returns-then-not-fits_block c = search fitting_fails

pub loop-i-preserved : goal.loop-i-preserved
loop-i-preserved c = search fitting_passes

pub returns : goal.returns
returns c =
    elim c.loop-i-test.branch [
      | else-loop-i-test w ↦
          fitting_last _ _ c.loop-i.invariant c.args.n c.requires.1 c.fits_block-2.result w.loop-i-test.false c.fits_block-2.ensures
      | then-loop-i-test+else-not-fits_block+else-n-last w ↦
          let v = fitting_passes _ _ c.loop-i.invariant c.args.n c.requires.1 w.fits_block.result w.loop-i-test.true w.fits_block.ensures (ap not w.if-not-fits_block.false) in
          fitting_last _ _ v c.args.n c.requires.1 c.fits_block-2.result (omega arith) c.fits_block-2.ensures
    ]
