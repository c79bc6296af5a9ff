-- `writer::texts::write_units` meets its contract. The loop's invariant, `Spelling`: the spelling of the bytes so far is at the buffer's start, and the rest of
-- the buffer is as it was lent. The measure is what is left of the value. Assumes nothing.
use mathlib.Core.Bool.{false}
use mathlib.Core.Path.{◌≡◌}
use Prim.Native.Nat.{◌+◌, ◌≤◌}
use native.Mathlib.Omega.{arith}
use lib.ListN.{length}
use Rattle.meaning.specs.Bytes.{◌!◌}
use Rattle.writer.specs.Manners.{kept_by, keeps}
use Rattle.writer.proofs.Writings as writings
use Rattle.writer.proofs.Writings.{Spelling, spelling_within}
use Rattle.writer.proofs.texts.write_units.Goals as goal

pub overflow_add-end : goal.overflow_add-end
overflow_add-end g c = let inside_here : c.loop-at.at + c.kept_run-run.result ≤ length c.args.value.now = search writings.run_inside in
    let h = inside_here in omega (arith, h)

pub slice_bounds-put_bytes-end : goal.slice_bounds-put_bytes-end
slice_bounds-put_bytes-end g c = let inside_here : c.loop-at.at + c.kept_run-run.result ≤ length c.args.value.now = search writings.run_inside in
    let h = inside_here in omega (arith, h)

pub loop-at-preserved-then-run-gt0 : goal.loop-at-preserved-then-run-gt0
loop-at-preserved-then-run-gt0 g c = search writings.spelling_run

pub put_unit-n-requires : goal.put_unit-n-requires
put_unit-n-requires g c = let changed_here : (let a = c.args in
    keeps (kept_by (g.S.Spelling.manner a.spelling.now)) (a.value.now ! c.loop-at.at) ≡ false) = search writings.run_none in
    writings.unit_asked c.loop-at.invariant c.loop-at-test.true changed_here

pub overflow_add-at : goal.overflow_add-at
overflow_add-at g c = let changed_here : (let a = c.args in
    keeps (kept_by (g.S.Spelling.manner a.spelling.now)) (a.value.now ! c.loop-at.at) ≡ false) = search writings.run_none in
    let h = writings.unit_inside c.loop-at.invariant c.loop-at-test.true changed_here _ c.unit_width-at.ensures in
    omega (arith, h)

pub loop-at-smaller : goal.loop-at-smaller
loop-at-smaller g c = let changed_here : (let a = c.args in
    keeps (kept_by (g.S.Spelling.manner a.spelling.now)) (a.value.now ! c.loop-at.at) ≡ false) = search writings.run_none in
    let h = writings.unit_inside c.loop-at.invariant c.loop-at-test.true changed_here _ c.unit_width-at.ensures in
    let k = writings.unit_some c.loop-at.invariant c.loop-at-test.true changed_here _ c.unit_width-at.ensures in
    omega (arith, h, k)

pub loop-at-preserved : goal.loop-at-preserved
loop-at-preserved g c = let changed_here : (let a = c.args in
    keeps (kept_by (g.S.Spelling.manner a.spelling.now)) (a.value.now ! c.loop-at.at) ≡ false) = search writings.run_none in
    writings.spelling_unit c.loop-at.invariant c.loop-at-test.true changed_here _ _ c.put_unit-n.ensures _
    c.unit_width-at.ensures

pub returns : goal.returns
returns g c = search writings.spelling_end
