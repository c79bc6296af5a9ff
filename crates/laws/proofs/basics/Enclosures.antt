-- A mark at a place of a text and at its end. Assumes nothing.
use mathlib.Core.Path.{◌≡◌, sym, ◌∙◌}
use mathlib.Core.Bool.{Bool, false, ◌&&◌, not}
use mathlib.Core.List.{List}
use Prim.Native.Nat.{ℕ, suc, ◌-◌, ◌≤◌, ◌<◌}
use native.Mathlib.Omega.{arith}
use lib.Dec.{eqb, ltb}
use lib.ListN.{length}
use borrow.Author.Tests.{lt-ltb, le-ltb, ltb-true, not-false}
use Rattle.meaning.specs.Bytes.{◌!◌}
use Rattle.meaning.specs.Spelling.{encloses}
use Rattle.laws.proofs.basics.Tests.{and_left}

-- MARKS at a place and at the end
module _ (l : List ℕ) (at q : ℕ) where
  pub encloses_past : length l ≤ at → false ≡ encloses at q l
  unfolding encloses
  encloses_past h = rw (le-ltb (suc at) (length l) (omega arith))

  pub encloses_short : length l - at < 2 → false ≡ encloses at q l
  unfolding encloses
  encloses_short h = rw (le-ltb (suc at) (length l) (omega arith))

  pub encloses_by : at < length l → 2 ≤ length l - at → (eqb (l ! at) q && eqb (l ! (length l - 1)) q) ≡ encloses at q l
  unfolding encloses
  encloses_by i h = rw (lt-ltb (suc at) (length l) (omega arith))

  pub enclosed_room : (x : Bool) → x ≡ encloses at q l → not x ≡ false → suc at < length l
  unfolding encloses
  enclosed_room x e t =
      ltb-true (suc at) (length l)
      (and_left (ltb (suc at) (length l)) (eqb (l ! at) q)
      (and_left (ltb (suc at) (length l) && eqb (l ! at) q) (eqb (l ! (length l - 1)) q) (sym e ∙ not-false x t)))
