-- `writer::units::put_scalar` meets its contract. Assumes nothing.
use mathlib.Core.Path.{ap}
use mathlib.Core.List.{[], ◌∷◌}
use Prim.Native.Nat.{◌≤◌, ◌<◌}
use native.Mathlib.Omega.{arith}
use lib.ListN.{length}
use Rattle.writer.proofs.Putting.{put_figured, unicode_four, unicode_six, unicode_some}
use borrow.Author.Rules.{rules}
use Rattle.writer.proofs.units.put_scalar.Goals as goal

pub bounds-out-0 : goal.bounds-out-0
bounds-out-0 c = omega (arith, unicode_some c.args.scalar)

pub slice_bounds-put_figures-end : goal.slice_bounds-put_figures-end
slice_bounds-put_figures-end c = let five_here : 5 ≤ length c.args.out.now = omega (arith, c.requires, ap length (unicode_four _ c.if-scalar-le65535.true)) in
    let h = five_here in search rules

pub returns-then-scalar-le65535 : goal.returns-then-scalar-le65535
returns-then-scalar-le65535 c = put_figured (92 ∷ []) 16 4 _ _ _ _ (unicode_four _ c.if-scalar-le65535.true) c.requires c.put_figures.ensures

pub bounds-out-1 : goal.bounds-out-1
bounds-out-1 c = let eight_here : 8 ≤ length c.args.out.now = omega (arith, c.requires, ap length (unicode_six _ c.if-scalar-le65535.false)) in
    let h : 1 < length c.args.out.now = omega (arith, eight_here) in search rules

pub slice_bounds-put_figures-end-2 : goal.slice_bounds-put_figures-end-2
slice_bounds-put_figures-end-2 c = let eight_here : 8 ≤ length c.args.out.now = omega (arith, c.requires, ap length (unicode_six _ c.if-scalar-le65535.false)) in
    let h = eight_here in search rules

pub returns : goal.returns
returns c = put_figured (92 ∷ 43 ∷ []) 16 6 _ _ _ _ (unicode_six _ c.if-scalar-le65535.false) c.requires c.put_figures-2.ensures
