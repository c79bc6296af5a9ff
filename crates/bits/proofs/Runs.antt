-- [02 T-07] Where the loop stands that packs a run of digits, whatever digits follow: a turn by a digit, by a whole byte, and the end. Assumes nothing.
use mathlib.Core.Path.{◌≡◌, refl, ap, sym, ◌∙◌, subst}
use mathlib.Core.Bool.{true, ◌&&◌}
use mathlib.Core.List.{List, [], ◌∷◌, ◌++◌}
use Prim.Native.Nat.{ℕ, zero, suc, ◌+◌, ◌-◌, ◌*◌, ◌/◌, ◌^◌, ◌≤◌, ◌<◌}
use native.Mathlib.Numerals.{add-one}
use native.Mathlib.Omega.{arith}
use borrow.Author.Tests.{eqb-true, leb-true}
use lib.Dec.{eqb, leb}
use lib.ListN.{length, get_or-append, get_or, drop, set, length-append, length-drop, drop_of_length-le}
use lib.Seq.{drop-cons, drop-drop, drop-append-le}
use Rattle.meaning.specs.declared.BitStringRadix.{BitStringRadix}
use Rattle.meaning.specs.Bytes.{digit, number}
use Rattle.meaning.specs.Packing.{radix_bits}
use Rattle.laws.proofs.basics.Tests.{and_left, and_right}
use Rattle.laws.proofs.basics.Laying.{laid_same}
use Rattle.bits.specs.declared.pens.Pen.{Pen}
use Rattle.bits.specs.Pens.{DigitsAt, Packing, Packable}
use Rattle.laws.proofs.packing.Digits.{radix_some}
use Rattle.bits.proofs.Radix.{radix_whole}
use Rattle.bits.proofs.Inking.{digit_fits, double_fits, full_inside, packing_full, more_left, packing_more, whole_inside, packing_whole}

-- the first i digits are packed
pub record Going (k : ℕ) (ds out₀ : List ℕ) (p₀ : Pen) (out : List ℕ) (p : Pen) (i : ℕ) : Type 0 where
  pub inside : i ≤ length ds
  pub goes : (whole d rest : List ℕ) → Packing k whole d out₀ p₀ (ds ++ rest) → Packing k whole d out p (drop i ds ++ rest)

abbrev pen : ℕ → ℕ → ℕ → Pen
pen at v n = record { at = at; byte = v; missing = n }

pub going_none : (k : ℕ) (ds out : List ℕ) (p : Pen) → Going k ds out p out p 0
going_none k ds out p = record { inside = omega arith; goes = λ whole d rest a. a }

-- a number's digits stand at the front
number_front : (β n v : ℕ) (s t : List ℕ) → n ≤ length s → number β n v (s ++ t) ≡ number β n v s
number_front β zero v s t h = refl
number_front β (suc n) v [] t h = absurd (omega arith)
number_front β (suc n) v (b ∷ s) t h = number_front β n (v * β + digit b) s t (omega arith)

module _ (r : BitStringRadix) {ds out₀ out : List ℕ} {p₀ : Pen} {at v n i : ℕ} (g : Going (radix_bits r) ds out₀ p₀ out (pen at v n) i)
    (pre : Packable (radix_bits r) ds p₀ out₀) where
  here : Packing (radix_bits r) pre.whole pre.lent out (pen at v n) (drop i ds ++ pre.rest)
  here = g.goes pre.whole pre.lent pre.rest pre.holds

  pub going_same : length out ≡ length out₀
  going_same = laid_same here.laid ∙ sym (laid_same pre.holds.laid)

  -- A DIGIT
  module _ (h : i < length ds) (base x : ℕ) (eb : base ≡ 2 ^ radix_bits r) (ex : x ≡ digit (get_or ds i 0)) where
    front : (rest : List ℕ) → drop i ds ++ rest ≡ get_or ds i 0 ∷ (drop (i + 1) ds ++ rest)
    front rest = rw (drop-cons ds i 0 h, add-one i)

    digit_here : Packing (radix_bits r) pre.whole pre.lent out (pen at v n) (get_or ds i 0 ∷ (drop (i + 1) ds ++ pre.rest))
    digit_here = subst (Packing (radix_bits r) pre.whole pre.lent out (pen at v n)) (front pre.rest) here

    pub going_fits : v * base + x < 256
    going_fits = rw (eb, ex) (digit_fits digit_here (radix_some r))

    module _ (bits : ℕ) (ek : bits ≡ radix_bits r) where
      pub going_full_inside : n ≡ bits → at < length out
      going_full_inside e = full_inside digit_here (radix_some r) (e ∙ ek)

      pub going_full : n ≡ bits
          → Going (radix_bits r) ds out₀ p₀ (set out at (v * base + x)) (pen (at + 1) 0 8) (i + 1)
      going_full e = record {
        inside = omega arith;
        goes =
            λ whole d rest a.
            rw (eb, ex)
            (packing_full (subst (Packing (radix_bits r) whole d out (pen at v n)) (front rest) (g.goes whole d rest a)) (radix_some r) (e ∙ ek)
            (radix_whole r).0 (radix_whole r).1);
      }

      pub going_less : (n ≡ bits → ⊥) → bits ≤ n
      going_less k = omega (arith, ek, more_left digit_here (radix_some r) (λ e. k (e ∙ sym ek)))

      pub going_more : (n ≡ bits → ⊥)
          → Going (radix_bits r) ds out₀ p₀ out (pen at (v * base + x) (n - bits)) (i + 1)
      going_more k = record {
        inside = omega arith;
        goes =
            λ whole d rest a.
            rw (eb, ex, ek)
            (packing_more (subst (Packing (radix_bits r) whole d out (pen at v n)) (front rest) (g.goes whole d rest a)) (radix_some r) (λ e. k (e ∙ sym ek)));
      }

  pub going_double : i < length ds → (base : ℕ) → base ≡ 2 ^ radix_bits r → v * base < 256
  going_double h base eb = rw eb (double_fits (digit_here h (2 ^ radix_bits r) (digit (get_or ds i 0)) refl refl) (radix_some r))

  -- A WHOLE BYTE
  module _ (bits : ℕ) (ek : bits ≡ radix_bits r) (c : (eqb (n) 8 && leb (8 / bits) (length ds - i)) ≡ true) where
    fresh : n ≡ 8
    fresh = eqb-true (n) 8 (and_left (eqb (n) 8) (leb (8 / bits) (length ds - i)) c)

    many : 8 / radix_bits r ≤ length ds - i
    many = rw ek at (leb-true (8 / bits) (length ds - i) (and_right (eqb (n) 8) (leb (8 / bits) (length ds - i)) c))

    per : 8 / radix_bits r ≡ suc (radix_whole r).0
    per = (radix_whole r).2

    there : (rest : List ℕ) → suc (radix_whole r).0 ≤ length (drop i ds ++ rest)
    there rest = omega (arith, per, many, length-append (drop i ds) rest, length-drop i ds)

    pub going_whole_digits : DigitsAt (2 ^ radix_bits r) (8 / radix_bits r) i ds
    going_whole_digits = record {
      inside = omega (arith, many, per);
      digits =
          λ j l.
          subst (λ (b : ℕ). digit b < 2 ^ radix_bits r) (get_or-append (drop i ds) pre.rest 0 j (omega (arith, many, length-drop i ds)))
          (here.digits j (omega (arith, per, there pre.rest)));
    }

    pub going_whole_inside : at < length out
    going_whole_inside = whole_inside here (radix_some r) fresh (radix_whole r).0 (radix_whole r).1 (there pre.rest)

    pub going_step : i + 8 / bits ≤ length ds
    going_step = omega (arith, many, per, ap (8 /◌) ek)

    pub going_shorter : length ds - (i + 8 / bits) < length ds - i
    going_shorter = omega (arith, many, per, ap (8 /◌) ek)

    pub going_whole : (b : ℕ) → b ≡ number (2 ^ radix_bits r) (8 / radix_bits r) 0 (drop i ds)
        → Going (radix_bits r) ds out₀ p₀ (set out at b) (pen (at + 1) v n) (i + 8 / bits)
    going_whole b e = record { inside = going_step; goes = λ whole d rest a. turn whole d rest a }
      where
        value : (rest : List ℕ) → b ≡ number (2 ^ radix_bits r) (suc (radix_whole r).0) 0 (drop i ds ++ rest)
        value rest =
            e ∙ ap (λ (n : ℕ). number (2 ^ radix_bits r) n 0 (drop i ds)) per
            ∙ sym (number_front (2 ^ radix_bits r) (suc (radix_whole r).0) 0 (drop i ds) rest (omega (arith, per, many, length-drop i ds)))

        behind : (rest : List ℕ) → drop (suc (radix_whole r).0) (drop i ds ++ rest) ≡ drop (i + 8 / bits) ds ++ rest
        behind rest =
            let l : i + suc (radix_whole r).0 ≡ i + 8 / bits = omega (arith, per, ap (8 /◌) ek) in
            drop-append-le (suc (radix_whole r).0) (drop i ds) rest (omega (arith, per, many, length-drop i ds))
            ∙ ap (◌++ rest) (drop-drop (suc (radix_whole r).0) i ds ∙ ap (λ (n : ℕ). drop n ds) l)

        turn : (whole d rest : List ℕ) → Packing (radix_bits r) whole d out₀ p₀ (ds ++ rest)
            → Packing (radix_bits r) whole d (set out at b) (pen (at + 1) v n) (drop (i + 8 / bits) ds ++ rest)
        turn whole d rest a =
            rw (value rest, ← behind rest)
            (packing_whole (g.goes whole d rest a) (radix_some r) fresh (radix_whole r).0 (radix_whole r).1 (there rest))

-- ALL OF THEM
pub going_end : {k : ℕ} {ds out₀ out : List ℕ} {p₀ p : Pen} {i : ℕ} → Going k ds out₀ p₀ out p i → length ds ≤ i
    → (whole d rest : List ℕ) → Packing k whole d out₀ p₀ (ds ++ rest) → Packing k whole d out p rest
going_end {k} {ds} {out₀} {out} {p₀} {p} {i} g h whole d rest a =
    subst (λ (t : List ℕ). Packing k whole d out p (t ++ rest)) (drop_of_length-le ds h) (g.goes whole d rest a)
