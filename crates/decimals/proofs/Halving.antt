-- A signed number of 128 bits in two halves: its magnitude with its sign, its negation, and what is read so. 2^127 is a variable B wherever a sum is
-- compared with it. Assumes nothing.
use Rattle.std.proofs.Common.{◌≡◌, ℕ, zero, suc, ◌+◌, ◌-◌, ◌*◌, ◌/◌, ◌%◌, ◌^◌, ◌<◌, ◌≤◌, Bool, true, false, ◌&&◌, eqb, ltb, List, length, take, drop, ℤ, pos, negsuc, neg_ℤ, sym, refl, ap, ◌∙◌, le_trans, le_of_suc-le-suc, le-add_right, mul-le-mul_right, mod-lt, div-lt_iff_lt-mul, pos_of_ne-zero, div-add-mod', arith, lit<, w64, Fits, ltb-false, ltb-true, le-ltb, lt-ltb, eq-eqb, ne_eqb, eqb-true}
use mathlib.Core.Bool.{false≢true}
use borrow.Author.Tests.{eqb-false}
use lib.Arith.{digits_lt, lt_of_le-ne}
use Rattle.std.specs.Prelude.{if◌then◌else◌}
use Rattle.meaning.specs.Numbers.{sign_length, is_minus, Parsed, none, int, fits, signed, within_bits, negated_by, unsigned}
use Rattle.meaning.specs.Halves.{joined_halves, bits_of, negated_low, negated_high}
use Rattle.laws.proofs.basics.Tests.{and_left, and_right}
use Rattle.laws.proofs.basics.Halves.{negated_halves_lem, bits_of_lt}
use Rattle.numbers.specs.Values.{parsed_apart, digits_from, radix_by, halves_by, wide_of}
use Rattle.decimals.specs.SignedHalves.{halves_of, negated_halves}
use Rattle.numbers.specs.declared.radix.Halves.{Halves}
use Rattle.numbers.proofs.Parsing.{parsed_value, parsed_great, parsed_fits}
use Rattle.numbers.proofs.Radixes.{base_small, radix_read, wide_value, wide_great}
use Rattle.numbers.proofs.Carrying.{halves_value}
use Rattle.std.specs.Prelude.{Option, Some, None}
use Rattle.numbers.specs.Values.{in_halves}

-- NEGATION, half by half, as wrapping subtraction gives it
module _ (hi lo : ℕ) (f : Fits w64 hi) where
  pub high_negated : lo ≡ 0 → (0 + (2 ^ 64 - hi)) % 2 ^ 64 ≡ negated_high hi lo
  unfolding negated_high
  high_negated z = rw (eq-eqb lo 0 z) (omega (arith, f.fits))

  pub high_borrowed : (lo ≡ 0 → ⊥) → ((0 + (2 ^ 64 - hi)) % 2 ^ 64 + 18446744073709551615) % 2 ^ 64 ≡ negated_high hi lo
  unfolding negated_high
  high_borrowed n = rw (ne_eqb lo 0 n) (omega (arith, f.fits))

pub negated_low_lt : (lo : ℕ) → negated_low lo < 2 ^ 64
unfolding negated_low
negated_low_lt lo = mod-lt (2 ^ 64 - lo) (omega arith)

-- WITHIN 128 BITS
abbrev pub held_of : ℤ → Option Halves
held_of z = halves_of (within_bits 127 (int z))

held : (z : ℤ) (hi lo : ℕ) → fits 127 z ≡ true → lo < 2 ^ 64 → joined_halves hi lo ≡ bits_of z → Some (in_halves hi lo) ≡ held_of z
held z hi lo f l e = rw f (halves_value hi lo l ∙ ap (λ (n : ℕ). Some (halves_by n)) e)

none_below : (B : ℕ) → B < 0 → ⊥
none_below B h = omega arith

below_pred : (B k : ℕ) → suc k < B → k < B
below_pred B k h = omega arith

small_negated : (n : ℕ) → n < 2 ^ 127 → fits 127 (neg_ℤ (pos n)) ≡ true
small_negated zero h = refl
small_negated (suc k) h = lt-ltb k (2 ^ 127) (below_pred (2 ^ 127) k h)

-- above B times m, or at it
above_by : (m B hi lo : ℕ) → 0 < m → B ≤ hi → (hi ≡ B → 0 < lo) → suc (B * m) ≤ hi * m + lo
above_by m B hi lo p h k = go (eqb hi B) refl
  where
    go : (x : Bool) → eqb hi B ≡ x → suc (B * m) ≤ hi * m + lo
    go true e = let q = eqb-true hi B e in let z = k q in rw q (omega arith)
    go false e =
        let n : hi ≡ B → ⊥ = eqb-false hi B e in
        let q : suc B ≤ hi = lt_of_le-ne h (λ z. n (sym z)) in
        let z : suc B * m ≤ hi * m = mul-le-mul_right m q in omega arith

pub below_half : (hi lo : ℕ) → hi < 2 ^ 63 → lo < 2 ^ 64 → joined_halves hi lo < 2 ^ 127
below_half hi lo h l = digits_lt {q = hi} {m = 2 ^ 63} {r = lo} {c = 2 ^ 64} h l

least_by : (hi lo : ℕ) → (eqb hi (2 ^ 63) && eqb lo 0) ≡ true → (hi ≡ 2 ^ 63) × (lo ≡ 0)
least_by hi lo e =
    (eqb-true hi (2 ^ 63) (and_left (eqb hi (2 ^ 63)) (eqb lo 0) e), eqb-true lo 0 (and_right (eqb hi (2 ^ 63)) (eqb lo 0) e))

-- `signed_halves`
module _ (m : Halves) where
  pub plus_held : m.hi < 2 ^ 63 → Fits w64 m.lo → Some m ≡ held_of (signed false (joined_halves m.hi m.lo))
  plus_held h l =
      held (pos (joined_halves m.hi m.lo)) m.hi m.lo (lt-ltb (joined_halves m.hi m.lo) (2 ^ 127) (below_half m.hi m.lo h l.fits)) l.fits refl

  pub plus_over : 2 ^ 63 ≤ m.hi → None ≡ held_of (signed false (joined_halves m.hi m.lo))
  plus_over h = rw (le-ltb (joined_halves m.hi m.lo) (2 ^ 127) (le_trans (mul-le-mul_right (2 ^ 64) h) (le-add_right (m.hi * 2 ^ 64) m.lo)))

  pub minus_held : m.hi < 2 ^ 63 → Fits w64 m.hi → Fits w64 m.lo → (r : Halves) → r ≡ in_halves (negated_high m.hi m.lo) (negated_low m.lo)
      → Some r ≡ held_of (signed true (joined_halves m.hi m.lo))
  minus_held k f g r e =
      let s = below_half m.hi m.lo k g.fits in
      rw e
      (held (neg_ℤ (pos (joined_halves m.hi m.lo))) (negated_high m.hi m.lo) (negated_low m.lo) (small_negated (joined_halves m.hi m.lo) s)
      (negated_low_lt m.lo)
      (negated_halves_lem (pos (joined_halves m.hi m.lo)) m.hi m.lo (lt-ltb (joined_halves m.hi m.lo) (2 ^ 127) s) f.fits g.fits refl))

  pub minus_least : m.hi ≡ 2 ^ 63 → m.lo ≡ 0 → Some m ≡ held_of (signed true (joined_halves m.hi m.lo))
  minus_least h l = rw (h, l)

  minus_above : 2 ^ 63 ≤ m.hi → (m.hi ≡ 2 ^ 63 → 0 < m.lo) → None ≡ held_of (signed true (joined_halves m.hi m.lo))
  minus_above h k = go (joined_halves m.hi m.lo) (above_by (2 ^ 64) (2 ^ 63) m.hi m.lo (omega arith) h k)
    where
      go : (n : ℕ) → 2 ^ 127 < n → None ≡ held_of (signed true n)
      go zero k = absurd (none_below (2 ^ 127) k)
      go (suc n) k = rw (le-ltb n (2 ^ 127) (le_of_suc-le-suc k))

  pub minus_over : 2 ^ 63 ≤ m.hi → (m.hi ≡ 2 ^ 63 → ⊥) → None ≡ held_of (signed true (joined_halves m.hi m.lo))
  minus_over h n = minus_above h (λ k. absurd (n k))

  pub minus_under : 2 ^ 63 ≤ m.hi → (m.lo ≡ 0 → ⊥) → None ≡ held_of (signed true (joined_halves m.hi m.lo))
  minus_under h n = minus_above h (λ k. pos_of_ne-zero n)

-- `read_signed_halves`
module _ (β s : ℕ) (t : List ℕ) (r : Option Halves) (w : radix_by β ≡ β) (e : s ≡ sign_length t)
    (f : r ≡ wide_of (digits_from (radix_by β) 0 false (take (length t - s) (drop s t)))) where
  halves_are : r ≡ wide_of (digits_from β 0 false (unsigned t))
  halves_are = radix_read β s t r w e f

  pub halves_signed : (m : Halves) (minus : Bool) (o : Option Halves) → r ≡ Some m → minus ≡ is_minus t
      → o ≡ held_of (signed minus (joined_halves m.hi m.lo)) → o ≡ halves_of (parsed_apart 127 β t)
  halves_signed m minus o q g h =
      h ∙ ap (λ (x : Bool). held_of (signed x (joined_halves m.hi m.lo))) g
      ∙ ap halves_of (sym (parsed_value β (base_small β w) 127 t (joined_halves m.hi m.lo)
      (wide_value m (digits_from β 0 false (unsigned t)) (sym halves_are ∙ q))))

  pub halves_refused : r ≡ None → None ≡ halves_of (parsed_apart 127 β t)
  halves_refused q =
      ap halves_of (sym (parsed_great β (base_small β w) 127 (2 ^ 128) t (lit< tt)
      (wide_great (digits_from β 0 false (unsigned t)) (sym halves_are ∙ q))))

-- `negated_halves`: of a number's bits they are those of the negation, if that is a number of 128 bits
top : (B n : ℕ) → n < B → B ≤ suc n → suc n ≡ B
top B n h k = omega arith

mirror : (B n : ℕ) → n < B → (B + B) - suc n ≡ B → suc n ≡ B
mirror B n h e = omega arith

pub negated_held : (z : ℤ) → fits 127 z ≡ true → negated_halves (bits_of z / 2 ^ 64) (bits_of z % 2 ^ 64) ≡ held_of (neg_ℤ z)
unfolding negated_halves
negated_held z f = go (eqb (bits_of z / 2 ^ 64) (2 ^ 63) && eqb (bits_of z % 2 ^ 64) 0) refl
  where
    refuse : (z : ℤ) → fits 127 z ≡ true → bits_of z ≡ 2 ^ 127 → None ≡ held_of (neg_ℤ z)
    refuse (pos n) f e = absurd (false≢true (rw e at f))
    refuse (negsuc n) f e = rw (mirror (2 ^ 127) n (ltb-true n (2 ^ 127) f) e)

    keep : (z : ℤ) → fits 127 z ≡ true → (eqb (bits_of z / 2 ^ 64) (2 ^ 63) && eqb (bits_of z % 2 ^ 64) 0) ≡ false → fits 127 (neg_ℤ z) ≡ true
    keep (pos n) f e = small_negated n (ltb-true n (2 ^ 127) f)
    keep (negsuc n) f e = by (ltb (suc n) (2 ^ 127)) refl
      where
        by : (x : Bool) → ltb (suc n) (2 ^ 127) ≡ x → x ≡ true
        by true h = refl
        by false h = absurd (false≢true (sym e ∙ rw (top (2 ^ 127) n (ltb-true n (2 ^ 127) f) (ltb-false (suc n) (2 ^ 127) h))))

    go : (x : Bool) → (eqb (bits_of z / 2 ^ 64) (2 ^ 63) && eqb (bits_of z % 2 ^ 64) 0) ≡ x
        → (if x then None else Some (in_halves (negated_high (bits_of z / 2 ^ 64) (bits_of z % 2 ^ 64)) (negated_low (bits_of z % 2 ^ 64)))) ≡ held_of (neg_ℤ z)
    go true e =
        let k = least_by (bits_of z / 2 ^ 64) (bits_of z % 2 ^ 64) e in
        refuse z f (sym (div-add-mod' (bits_of z) (2 ^ 64)) ∙ rw (k.0, k.1))
    go false e =
        held (neg_ℤ z) (negated_high (bits_of z / 2 ^ 64) (bits_of z % 2 ^ 64)) (negated_low (bits_of z % 2 ^ 64)) (keep z f e) (negated_low_lt (bits_of z % 2 ^ 64))
        (negated_halves_lem z (bits_of z / 2 ^ 64) (bits_of z % 2 ^ 64) f ((div-lt_iff_lt-mul (lit< tt)).1 (bits_of_lt z f)) (mod-lt (bits_of z) (lit< tt))
        (div-add-mod' (bits_of z) (2 ^ 64)))

-- `read_radix_halves`
module _ (minus : Bool) (m : Halves) (o : Option Halves) where
  first_by : (x : Parsed) → ((z : ℤ) → x ≡ int z → fits 127 z ≡ true) → minus ≡ true → halves_of x ≡ Some m → o ≡ negated_halves m.hi m.lo
      → o ≡ halves_of (within_bits 127 (negated_by minus x))
  first_by none f s e h = cc
  first_by (int z) f s e h =
      let k : halves_by (bits_of z) ≡ m = cc in
      rw s (h ∙ sym (ap (λ (x : Halves). negated_halves x.hi x.lo) k) ∙ negated_held z (f z refl))

  plain_by : (x : Parsed) → ((z : ℤ) → x ≡ int z → fits 127 z ≡ true) → minus ≡ false → halves_of x ≡ Some m
      → Some m ≡ halves_of (within_bits 127 (negated_by minus x))
  plain_by none f s e = sym e
  plain_by (int z) f s e = rw (s, f z refl) (sym e)

module _ (minus : Bool) (β : ℕ) (t : List ℕ) (r : Option Halves) (w : radix_by β ≡ β) (e : r ≡ halves_of (parsed_apart 127 β t)) where
  pub first_minus : minus ≡ true → (m : Halves) (o : Option Halves) → r ≡ Some m → o ≡ negated_halves m.hi m.lo
      → o ≡ halves_of (within_bits 127 (negated_by minus (parsed_apart 127 β t)))
  first_minus s m o q h =
      first_by minus m o (parsed_apart 127 β t) (parsed_fits β (base_small β w) 127 t) s (sym e ∙ q) h

  pub first_plain : minus ≡ false → (m : Halves) → r ≡ Some m → Some m ≡ halves_of (within_bits 127 (negated_by minus (parsed_apart 127 β t)))
  first_plain s m q = plain_by minus m (Some m) (parsed_apart 127 β t) (parsed_fits β (base_small β w) 127 t) s (sym e ∙ q)

  pub first_refused : r ≡ None → None ≡ halves_of (within_bits 127 (negated_by minus (parsed_apart 127 β t)))
  first_refused q = go (parsed_apart 127 β t) (sym e ∙ q)
    where
      go : (x : Parsed) → halves_of x ≡ None → None ≡ halves_of (within_bits 127 (negated_by minus x))
      go none e = refl
      go (int z) e = cc
