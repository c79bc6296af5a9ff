-- Digits that are put into a buffer from its end to its start: the low ones stand there already, and the rest of the number is to come. Assumes nothing.
use mathlib.Core.Path.{◌≡◌, refl, ap, sym, ◌∙◌}
use mathlib.Core.List.{List, ◌∷◌}
use Prim.Native.Nat.{ℕ, suc, ◌+◌, ◌-◌, ◌/◌, ◌%◌, ◌^◌, ◌≤◌, ◌<◌}
use native.Mathlib.Nat.{pow-zero, pow-suc, div-one, div-div-eq-div-mul}
use native.Mathlib.Omega.{arith}
use borrow.Author.Tests.{lt-ltb, le-ltb}
use lib.ListN.{length, take, drop, set, length-set}
use lib.Seq.{drop-length, set_split, drop_at, length-take-le}
use Rattle.meaning.specs.Forms.{figure, figures}

-- ONE DIGIT
pub figure_decimal : (d : ℕ) → d < 10 → 48 + d ≡ figure d
unfolding figure
figure_decimal d h = rw (lt-ltb d 10 h)

pub figure_letter : (d : ℕ) → 10 ≤ d → 55 + d ≡ figure d
unfolding figure
figure_letter d h = rw (le-ltb d 10 h) (omega arith)

-- THE LOOP: all but the first `left` places are filled
pub record Figuring (c β : ℕ) (d out : List ℕ) (rest left : ℕ) : Type 0 where
  pub inside : left ≤ length d
  pub same : length out ≡ length d
  pub to_come : rest ≡ c / β ^ (length d - left)
  pub put : drop left out ≡ figures β (length d - left) c

module _ {c β : ℕ} {d out : List ℕ} {rest left : ℕ} (v : Figuring c β d out rest left) where
  pub figuring_on : 0 < left → (r : ℕ) → r ≡ figure (rest % β) → Figuring c β d (set out (left - 1) r) (rest / β) (left - 1)
  figuring_on some r e =
      let i = left - 1 in
      let k = length d - left in
      let z : length d - i ≡ suc k = omega (arith, v.inside) in
      let s : suc i ≡ left = omega arith in
      let h : i < length out = omega (arith, v.inside, v.same) in
      record {
        inside = omega (arith, v.inside);
        same = length-set out i r ∙ v.same;
        to_come = rw (z, pow-suc β k) (ap (◌/ β) v.to_come ∙ div-div-eq-div-mul c (β ^ k) β);
        put =
            rw z
            (ap (drop i) (set_split out i r h) ∙ drop_at (take i out) (r ∷ drop (suc i) out) i (length-take-le i out (omega arith))
            ∙ ap (λ (n : ℕ). r ∷ drop n out) s ∙ ap (r ∷◌) v.put
            ∙ ap (◌∷ figures β k c) (e ∙ ap (λ (n : ℕ). figure (n % β)) v.to_come));
      }
