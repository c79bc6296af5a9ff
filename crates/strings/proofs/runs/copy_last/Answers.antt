-- `strings::runs::copy_last` meets its contract. The loop's invariant, `Lasting`: the bytes before the place are copied, and belong to the run. Assumes nothing.
use mathlib.Core.Path.{◌≡◌, subst}
use Prim.Native.Nat.{ℕ}
use native.Mathlib.Omega.{arith}
use lib.ListN.{length}
use Rattle.strings.specs.Quick.{Copies}
use Rattle.strings.proofs.RunCopies.{lasting_none, lasting_turn, lasting_end}
use Rattle.strings.proofs.runs.copy_last.Goals as goal

pub loop-place-init : goal.loop-place-init
loop-place-init c = search lasting_none

pub returns-then-byte-first : goal.returns-then-byte-first
returns-then-byte-first c = search lasting_end

pub loop-place-preserved : goal.loop-place-preserved
loop-place-preserved c = search lasting_turn

pub returns : goal.returns
returns c =
    let e : c.loop-place.place ≡ length c.args.text.now = omega (arith, c.loop-place.invariant.copying.inside) in
    subst (λ (j : ℕ). Copies c.args.first c.args.second c.args.text.now c.args.out.now j c.loop-place.out) e (lasting_end c.loop-place.invariant (omega arith))
