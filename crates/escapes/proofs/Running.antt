-- A run of digits that a loop reads from a place of a body on: so far each byte is one, and the number is theirs. Assumes nothing.
use mathlib.Core.Path.{◌≡◌, refl, ap, sym, ◌∙◌}
use mathlib.Core.List.{List}
use Prim.Native.Nat.{ℕ, ◌+◌, ◌-◌, ◌*◌, ◌^◌, ◌≤◌, ◌<◌}
use native.Mathlib.Nat.{lt_of_lt_of_le, le_trans, pow-le-pow_left, pow-le-pow_right}
use native.Mathlib.Numerals.{add-one}
use native.Mathlib.Omega.{arith}
use borrow.Author.Count.{below_more}
use mir.Syntax.{w32}
use mir.Val.{Fits}
use lib.ListN.{length, drop, length-drop}
use lib.Seq.{get_or-drop}
use Rattle.meaning.specs.Bytes.{◌!◌, digit, number}
use Rattle.laws.proofs.basics.Digits.{DigitsTo, digits_is, number_suc, number_lt}
use Rattle.escapes.specs.Digits.{Run}

-- of base β, w at the most: n digits from the place `at` of l on, and their number v
pub record Running (β w : ℕ) (l : List ℕ) (at n v : ℕ) : Type 0 where
  pub most : n ≤ w
  pub inside : n ≤ length (drop at l)
  pub all : DigitsTo β n (drop at l)
  pub made : v ≡ number β n 0 (drop at l)

pub running_none : (β w : ℕ) (l : List ℕ) (at : ℕ) → Running β w l at 0 0
running_none β w l at = record { most = omega arith; inside = omega arith; all = λ i h. absurd (omega arith); made = refl }

module _ {β w : ℕ} {l : List ℕ} {at n v : ℕ} (r : Running β w l at n v) where
  -- the run is at its end: the next byte is no digit, the width is full, or nothing is left
  ended : (n < w → n < length (drop at l) → β ≤ digit (drop at l ! n)) → Run β w (drop at l) (record { count = n; value = v })
  ended f =
      let e = digits_is β w (drop at l) n r.most r.inside r.all f in
      record { count = sym e; value = r.made ∙ ap (λ (k : ℕ). number β k 0 (drop at l)) (sym e); most = r.most }

  pub running_over : length l - at ≤ n → Run β w (drop at l) (record { count = n; value = v })
  running_over h = ended (λ p q. absurd (omega (arith, length-drop at l)))

  pub running_full : w ≤ n → Run β w (drop at l) (record { count = w; value = v })
  running_full h =
      let e : w ≡ n = omega (arith, r.most) in
      let x = ended (λ p q. absurd (omega arith)) in
      record { count = e ∙ x.count; value = x.value; most = omega arith }

  -- d is the next byte's digit
  module _ (d : ℕ) (e : d ≡ digit (l ! (at + n))) where
    here : d ≡ digit (drop at l ! n)
    here = e ∙ ap digit (sym (get_or-drop at l n 0))

    pub running_other : β ≤ d → Run β w (drop at l) (record { count = n; value = v })
    running_other h = ended (λ p q. rw here at h)

    module _ (h : n < w) (k : n < length l - at) (b : d < β) where
      pub running_turn : Running β w l at (n + 1) (v * β + d)
      running_turn =
          let i : n < length (drop at l) = rw length-drop k in
          let j : digit (drop at l ! n) < β = rw here at b in
          record {
            most = omega arith;
            inside = omega arith;
            all = below_more (λ i. digit (drop at l ! i) < β) n r.all j;
            made = rw (here, add-one n, number_suc β n 0 (drop at l) i, r.made);
          }

      -- eight digits of base 16 fit 32 bits
      fits : β ≤ 16 → w ≤ 8 → v * β + d < 2 ^ 32
      fits y z =
          let s = running_turn in
          let m : n + 1 ≤ 8 = omega arith in
          let o : 0 < 16 = omega arith in
          lt_of_lt_of_le (rw s.made (number_lt β (n + 1) (drop at l) s.inside s.all))
          (le_trans (pow-le-pow_left y (n + 1)) (pow-le-pow_right o m))

      pub running_adds : (β ≤ 16) × (w ≤ 8) → Fits w32 (v * β + d)
      running_adds p = record { fits = fits p.0 p.1 }

      pub running_scales : (β ≤ 16) × (w ≤ 8) → Fits w32 (v * β)
      running_scales p = let f = fits p.0 p.1 in record { fits = omega arith }

-- nothing is there
pub run_past : (β w : ℕ) (l : List ℕ) (at : ℕ) → length l ≤ at → Run β w (drop at l) (record { count = 0; value = 0 })
run_past β w l at h = running_over (running_none β w l at) (omega arith)
