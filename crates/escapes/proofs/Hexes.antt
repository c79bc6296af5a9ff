-- Hex digits by a number of them, read from a place of a body on: so far, whether each byte is one, and the number that they make. Assumes nothing.
use mathlib.Core.Path.{◌≡◌, refl, ap, sym, ◌∙◌}
use mathlib.Core.Bool.{Bool, true, false, ◌&&◌}
use mathlib.Core.List.{List, [], ◌∷◌}
use Prim.Native.Nat.{ℕ, zero, suc, ◌+◌, ◌-◌, ◌*◌, ◌^◌, ◌≤◌, ◌<◌}
use native.Mathlib.Nat.{lt_of_lt_of_le, pow-succ', pow-le-pow_right}
use native.Mathlib.Numerals.{add-one}
use native.Mathlib.Omega.{arith}
use borrow.Author.Tests.{ne_eqb, eqb-true, ltb-true, ltb-false}
use mir.Syntax.{w32, w64}
use mir.Val.{Fits}
use lib.Dec.{eqb, ltb, eqb-suc-suc}
use lib.ListN.{length, drop, length-drop, drop_of_length-le}
use lib.Seq.{get_or-drop}
use Rattle.meaning.specs.Bytes.{◌!◌, within, digit, digits, number}
use Rattle.std.specs.Prelude.{if◌then◌else◌}
use Rattle.laws.proofs.basics.Tests.{within_bounds}
use Rattle.laws.proofs.basics.Digits.{digits_length, number_suc, number_digits_lt}
use Rattle.escapes.specs.Digits.{hex_by}

-- TOO FEW bytes
hex_none : (w : ℕ) (t : List ℕ) → length t < w → 0 ≡ hex_by w t
unfolding hex_by
hex_none w t h =
    let n : digits 16 w t ≡ w → ⊥ = λ q. omega (arith, digits_length 16 w t) in
    rw (ne_eqb (digits 16 w t) w n)

pub hex_past : (w : ℕ) (l : List ℕ) (at : ℕ) → length l ≤ at → 0 ≡ hex_by w (drop at l)
unfolding hex_by
hex_past w l at h = rw (drop_of_length-le l h) (go w)
  where
    go : (w : ℕ) → 0 ≡ hex_by w []
    go zero = refl
    go (suc w) = hex_none (suc w) [] (omega arith)

pub hex_short : (w : ℕ) (l : List ℕ) (at : ℕ) → at < length l → length l - at < w → 0 ≡ hex_by w (drop at l)
hex_short w l at h k = hex_none w (drop at l) (rw length-drop k)

-- digits that make a number are inside
pub hex_inside : (w : ℕ) (l : List ℕ) (at v : ℕ) → v ≡ hex_by w (drop at l) → 0 < v → at ≤ length l → at + w ≤ length l
hex_inside w l at v e o h = go (ltb (length (drop at l)) w) refl
  where
    go : (x : Bool) → ltb (length (drop at l)) w ≡ x → at + w ≤ length l
    go true k = absurd (omega (arith, hex_none w (drop at l) (ltb-true (length (drop at l)) w k), e))
    go false k = omega (arith, ltb-false (length (drop at l)) w k, length-drop at l)

-- ONE BYTE MORE
whole_suc : (β n : ℕ) (t : List ℕ) → n < length t → (eqb (digits β n t) n && ltb (digit (t ! n)) β) ≡ eqb (digits β (suc n) t) (suc n)
whole_suc β n [] h = absurd (omega arith)
whole_suc β zero (b ∷ t) h = go (ltb (digit b) β)
  where
    go : (x : Bool) → x ≡ eqb (if x then 1 else 0) 1
    go true = refl
    go false = refl
whole_suc β (suc n) (b ∷ t) h = go (ltb (digit b) β) (whole_suc β n t (omega arith))
  where
    go : (x : Bool) → (eqb (digits β n t) n && ltb (digit (t ! n)) β) ≡ eqb (digits β (suc n) t) (suc n)
        → (eqb (if x then suc (digits β n t) else 0) (suc n) && ltb (digit (t ! n)) β) ≡ eqb (if x then suc (digits β (suc n) t) else 0) (suc (suc n))
    go true e =
        ap (◌&& ltb (digit (t ! n)) β) (eqb-suc-suc (digits β n t) n) ∙ e ∙ sym (eqb-suc-suc (digits β (suc n) t) (suc n))
    go false e = rw (ne_eqb 0 (suc n) (λ e. omega arith), ne_eqb 0 (suc (suc n)) (λ e. omega arith))

-- no byte counts more than 16
digit_most : (b : ℕ) → digit b ≤ 16
unfolding digit
digit_most b = go (within 48 57 b) (within 65 70 b) (within 97 102 b) refl refl refl
  where
    go : (x y z : Bool) → within 48 57 b ≡ x → within 65 70 b ≡ y → within 97 102 b ≡ z
        → (if x then b - 48 else if y then b - 55 else if z then b - 87 else 16) ≤ 16
    go true y z e f g = let h = within_bounds 48 57 b e in omega arith
    go false true z e f g = let h = within_bounds 65 70 b f in omega arith
    go false false true e f g = let h = within_bounds 97 102 b g in omega arith
    go false false false e f g = omega arith

-- SO FAR: of the n pairs from a place on, i are read; y says whether each byte is a digit, and v is the number that they make
pub record Hexing (l : List ℕ) (at n i : ℕ) (y : Bool) (v : ℕ) : Type 0 where
  pub inside : at + (n + n) ≤ length l
  pub most : i ≤ n
  pub whole : y ≡ eqb (digits 16 (i + i) (drop at l)) (i + i)
  pub made : v ≡ number 16 (i + i) 0 (drop at l)
  pub small : v + 2 ≤ 2 * 256 ^ i

pub hexing_none : (l : List ℕ) (at n : ℕ) → at < length l → n + n ≤ length l - at → Hexing l at n 0 true 0
hexing_none l at n h k = record { inside = omega arith; most = omega arith; whole = refl; made = refl; small = omega arith }

module _ {l : List ℕ} {at n i : ℕ} {y : Bool} {v : ℕ} (x : Hexing l at n i y v) where
  module _ (h : i < n) (d e : ℕ) (ed : d ≡ digit (l ! (at + i + i))) (ee : e ≡ digit (l ! (at + i + i + 1))) where
    pub hexing_turn : Hexing l at n (i + 1) (y && (ltb d 16 && ltb e 16)) (v * 256 + (d * 16 + e))
    hexing_turn =
        let t = drop at l in
        let m = i + i in
        let p : at + i + i ≡ at + m = omega arith in
        let q : at + i + i + 1 ≡ at + suc m = omega arith in
        let a : d ≡ digit (t ! m) = ed ∙ ap (λ (k : ℕ). digit (l ! k)) p ∙ ap digit (sym (get_or-drop at l m 0)) in
        let b : e ≡ digit (t ! suc m) = ee ∙ ap (λ (k : ℕ). digit (l ! k)) q ∙ ap digit (sym (get_or-drop at l (suc m) 0)) in
        let j : suc m < length t = omega (arith, x.inside, length-drop at l) in
        let k : m < length t = omega arith in
        let z : i + 1 + (i + 1) ≡ suc (suc m) = omega arith in
        let u = whole_suc 16 m t k in
        let w = whole_suc 16 (suc m) t j in
        let f = number_suc 16 m 0 t k in
        let g = number_suc 16 (suc m) 0 t j in
        record {
          inside = x.inside;
          most = omega arith;
          whole =
              rw (z, a, b)
              (ap (◌&& (ltb (digit (t ! m)) 16 && ltb (digit (t ! suc m)) 16)) x.whole
              ∙ both (eqb (digits 16 m t) m) (ltb (digit (t ! m)) 16) (ltb (digit (t ! suc m)) 16)
              ∙ ap (◌&& ltb (digit (t ! suc m)) 16) u ∙ w);
          made = rw (z, g, f) (omega (arith, x.made, a, b));
          small = rw (add-one i, pow-succ' 256 i) (omega (arith, x.small, ed, ee, digit_most (l ! (at + i + i)), digit_most (l ! (at + i + i + 1))));
        }
      where
        both : (x y z : Bool) → (x && (y && z)) ≡ ((x && y) && z)
        both true y z = refl
        both false y z = refl

    -- four pairs fit 64 bits, digits or not
    fits : n ≤ 4 → v * 256 + (d * 16 + e) < 2 ^ 64
    fits z =
        let m : i + 1 ≤ 4 = omega arith in
        let o : 0 < 256 = omega arith in
        omega (arith, hexing_turn.small, pow-le-pow_right o m)

    pub hexing_adds : n ≤ 4 → Fits w64 (v * 256 + (d * 16 + e))
    hexing_adds z = record { fits = fits z }

  pub hexing_scales : i < n → n ≤ 4 → Fits w64 (v * 256)
  hexing_scales h z =
      let m : i ≤ 3 = omega arith in
      let o : 0 < 256 = omega arith in
      record { fits = omega (arith, x.small, pow-le-pow_right o m) }

  module _ (h : n ≤ i) where
    pub hexing_some : y ≡ false → 0 ≡ hex_by (n + n) (drop at l)
    unfolding hex_by
    hexing_some e = let k : i ≡ n = omega (arith, x.most) in rw (← k, ← x.whole, e)

    module _ (e : y ≡ true) where
      pub hexing_all : v ≡ hex_by (n + n) (drop at l)
      unfolding hex_by
      hexing_all = let k : i ≡ n = omega (arith, x.most) in rw (← k, ← x.whole, e) x.made

      -- eight digits fit 32 bits
      pub hexing_fits : n ≤ 4 → Fits w32 v
      hexing_fits z =
          let k : digits 16 (i + i) (drop at l) ≡ i + i = eqb-true (digits 16 (i + i) (drop at l)) (i + i) (sym x.whole ∙ e) in
          let m : i + i ≤ 8 = omega (arith, x.most) in
          let o : 0 < 16 = omega arith in
          record { fits = rw x.made (lt_of_lt_of_le (number_digits_lt 16 (i + i) (i + i) (drop at l) (omega arith)) (pow-le-pow_right o m)) }
