-- [02 T-07] What refuses packed bytes and their bit count, as the code finds it: the rounded count, whole digits, and bits that are not used. Assumes nothing.
use mathlib.Core.Path.{◌≡◌, refl, ap, sym, ◌∙◌}
use mathlib.Core.Bool.{Bool, true, false, ◌||◌, not}
use mathlib.Core.List.{List, [], ◌∷◌, append-nil}
use Prim.Native.Nat.{ℕ, suc, ◌+◌, ◌-◌, ◌*◌, ◌/◌, ◌%◌, ◌^◌, ◌≤◌}
use native.Mathlib.Nat.{add-zero}
use native.Mathlib.Omega.{arith}
use borrow.Author.Tests.{eq-eqb, ne_eqb, eqb-true, not-true, not-false}
use lib.Dec.{eqb}
use lib.ListN.{length, drop, drop_of_length-le}
use lib.Seq.{drop-cons, drop-drop}
use Rattle.meaning.specs.declared.BitStringRadix.{BitStringRadix}
use Rattle.meaning.specs.Bytes.{◌!◌, all_zero}
use Rattle.std.specs.Prelude.{if◌then◌else◌}
use Rattle.meaning.specs.Packing.{bits_of_number, spread, radix_bits, packed_length, bad_bits}
use Rattle.laws.proofs.basics.Tests.{or_left, or_right}
use Rattle.laws.proofs.packing.Gathered.{length_spread}
use Rattle.laws.proofs.packing.Figured.{drop_spread, shifted_zero}

-- THE COUNT ROUNDED UP
pub packed_whole : (n : ℕ) → n % 8 ≡ 0 → n / 8 ≡ packed_length n
packed_whole n h = rw (h, add-zero)

pub packed_more : (n : ℕ) → (n % 8 ≡ 0 → ⊥) → n / 8 + 1 ≡ packed_length n
packed_more n h = rw (ne_eqb (n % 8) 0 h)

pub packed_covers : (n : ℕ) → n ≤ 8 * packed_length n
packed_covers n = go (eqb (n % 8) 0) refl
  where
    go : (x : Bool) → eqb (n % 8) 0 ≡ x → n ≤ 8 * (n / 8 + (if x then 0 else 1))
    go true e = omega (arith, eqb-true (n % 8) 0 e)
    go false e = omega arith

-- UNUSED BITS
module _ (t : List ℕ) (n : ℕ) (e : length t ≡ packed_length n) where
  pub unused_none : n % 8 ≡ 0 → false ≡ not (all_zero (drop n (spread 8 t)))
  unused_none h =
      let l : length (spread 8 t) ≡ n = omega (arith, length_spread 8 t, e, packed_whole n h) in
      let d : drop n (spread 8 t) ≡ [] = drop_of_length-le (spread 8 t) {i = n} (omega arith) in
      rw d

  module _ (h : n % 8 ≡ 0 → ⊥) where
    last_place : length t ≡ suc (n / 8)
    last_place = omega (arith, e, packed_more n h)

    -- the last byte, and its bits behind the count
    rest : drop (n / 8) t ≡ (t ! (n / 8)) ∷ []
    rest =
        drop-cons t (n / 8) 0 (omega (arith, last_place))
        ∙ ap ((t ! (n / 8)) ∷◌) (drop_of_length-le t {i = suc (n / 8)} (omega (arith, last_place)))

    rest_bits : drop n (spread 8 t) ≡ drop (n % 8) (bits_of_number 8 (t ! (n / 8)))
    rest_bits =
        let s : n ≡ n / 8 * 8 + n % 8 = omega arith in
        ap (λ (k : ℕ). drop k (spread 8 t)) s ∙ sym (drop-drop (n % 8) (n / 8 * 8) (spread 8 t))
        ∙ ap (drop (n % 8)) (drop_spread 8 (n / 8) t ∙ ap (spread 8) rest ∙ append-nil (bits_of_number 8 (t ! (n / 8))))

    pub unused_last : not (eqb ((t ! (length t - 1)) * 2 ^ (n % 8) % 256) 0) ≡ not (all_zero (drop n (spread 8 t)))
    unused_last =
        let x = n % 8 in
        let b = t ! (n / 8) in
        let i : length t - 1 ≡ n / 8 = omega (arith, last_place) in
        let y : x + (8 - x) ≡ 8 = omega arith in
        let z : 8 - x + x ≡ 8 = omega arith in
        rw (i, rest_bits) (ap not (rw (y, z) at (shifted_zero x (8 - x) b)))

-- THE THREE REASONS, in the code's order
module _ (r : BitStringRadix) (t : List ℕ) (n m : ℕ) (e : m ≡ packed_length n) where
  pub bad_length : (length t ≡ m → ⊥) → true ≡ bad_bits r t n
  unfolding bad_bits
  bad_length h = rw (← e, ne_eqb (length t) m h)

  module _ (l : length t ≡ m) (x : Bool) (f : x ≡ eqb (n % radix_bits r) 0) where
    pub bad_digits : not x ≡ true → true ≡ bad_bits r t n
    unfolding bad_bits
    bad_digits h = rw (← e, eq-eqb (length t) m l, ← f, not-true x h)

    pub bad_unused : not x ≡ false → (z : Bool) → z ≡ not (all_zero (drop n (spread 8 t))) → z ≡ bad_bits r t n
    unfolding bad_bits
    bad_unused h z g = rw (← e, eq-eqb (length t) m l, ← f, not-false x h) g

-- NONE OF THEM
pub record GoodBits (r : BitStringRadix) (t : List ℕ) (n : ℕ) : Type 0 where
  pub size : length t ≡ packed_length n
  pub digits : n % radix_bits r ≡ 0

pub good_bits : (r : BitStringRadix) (t : List ℕ) (n : ℕ) → bad_bits r t n ≡ false → GoodBits r t n
unfolding bad_bits
good_bits r t n h =
    let x = eqb (length t) (packed_length n) in
    let y = eqb (n % radix_bits r) 0 in
    let z = not (all_zero (drop n (spread 8 t))) in
    record {
      size = eqb-true (length t) (packed_length n) (not-false x (or_left (not x) (not y || z) h));
      digits = eqb-true (n % radix_bits r) 0 (not-false y (or_left (not y) z (or_right (not x) (not y || z) h)));
    }
