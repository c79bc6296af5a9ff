-- `cutting::marks::closing_mark` meets its contract. The loop's invariant: the search has walked the first `at` bytes (`SoFar`). The measure is what is left of
-- the body. Assumes nothing.
use native.Mathlib.Omega.{arith}
use Rattle.cutting.proofs.Closes.{run_fits, turn_hidden, turn_doubled, turn_other, out_hidden, out_lone, out_end}
use Rattle.cutting.proofs.marks.closing_mark.Goals as goal

pub returns-then-body-at-lt2 : goal.returns-then-body-at-lt2
returns-then-body-at-lt2 c = search out_hidden

pub loop-at-preserved-then-hides-byte : goal.loop-at-preserved-then-hides-byte
loop-at-preserved-then-hides-byte c = search turn_hidden

pub returns-then-byte_at-quote : goal.returns-then-byte_at-quote
returns-then-byte_at-quote c = search out_lone

pub loop-at-preserved-then-byte-quote : goal.loop-at-preserved-then-byte-quote
loop-at-preserved-then-byte-quote c = turn_doubled _ _ _ _ c.loop-at-test.true c.loop-at.invariant
    c.args.mark
    c.mark_byte-quote.ensures c.if-hides-byte.false
    c.if-byte-quote.true _ c.byte_at.ensures c.if-byte_at-quote.false

pub overflow_add-at-else-byte-quote-2 : goal.overflow_add-at-else-byte-quote-2
overflow_add-at-else-byte-quote-2 c = let f = run_fits _ _ _ _ c.loop-at-test.true _
    c.closing_stops-stops.ensures _ c.free_run.ensures c.if-hides-byte.false
    c.if-byte-quote.false in omega (arith, f)

pub overflow_add-at-else-byte-quote-3 : goal.overflow_add-at-else-byte-quote-3
overflow_add-at-else-byte-quote-3 c = let f = run_fits _ _ _ _ c.loop-at-test.true _
    c.closing_stops-stops.ensures _ c.free_run.ensures c.if-hides-byte.false
    c.if-byte-quote.false in omega (arith, f)

pub loop-at-preserved : goal.loop-at-preserved
loop-at-preserved c = search turn_other

pub returns : goal.returns
returns c = search out_end
