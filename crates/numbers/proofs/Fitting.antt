-- What is read as a number of 64 bits: digits with a sign, a sign before a radix prefix, a whole text. Assumes nothing.
use mathlib.Core.Path.{◌≡◌, refl, ap, sym, ◌∙◌}
use mathlib.Core.Bool.{Bool, true, false, not}
use mathlib.Core.List.{List}
use Prim.Native.Nat.{ℕ, ◌-◌, ◌^◌, ◌≤◌, ◌<◌}
use native.Mathlib.Nat.{pos_of_ne-zero}
use native.Mathlib.Omega.{arith}
use borrow.Author.Tests.{ltb-false, ne_eqb}
use lib.Dec.{ltb, lit<}
use lib.IntN.{ℤ, neg_ℤ}
use lib.ListN.{length, take, drop}
use mir.Syntax.{w64}
use mir.Val.{SFits, to_z, of_z}
use mir.Facts.{to_z-of_z}
use Rattle.laws.proofs.basics.Digits.{DigitsTo, all_digits_at}
use Rattle.meaning.specs.declared.RadixPrefix.{RadixPrefix}
use Rattle.meaning.specs.Bytes.{number, all_digits}
use Rattle.std.specs.Prelude.{if◌then◌else◌}
use Rattle.meaning.specs.Halves.{joined_halves}
use Rattle.meaning.specs.Numbers.{sign_length, is_minus, radix_prefix, placed, strip, Parsed, none}
use Rattle.meaning.specs.Numbers.{int, signed, within_bits, parsed, negated_by, unsigned, base_of, i64_of}
use Rattle.numbers.specs.Values.{int64_of, parsed_apart, Spelt, misspelt, spelt, digits_from, magnitude_of, short_of, radix_by, wide_of}
use Rattle.numbers.specs.declared.radix.Halves.{Halves}
use Rattle.numbers.proofs.Prefixes.{tail_part}
use Rattle.numbers.proofs.Spelled.{Above}
use Rattle.numbers.proofs.Parsing.{parsed_value, parsed_great}
use Rattle.numbers.proofs.Signs.{fitted_of, fits_size}
use Rattle.numbers.proofs.Magnitudes.{tallied}
use Rattle.numbers.proofs.Radixes.{base_small, radix_read, wide_value, wide_great}
use Rattle.numbers.proofs.Shorts.{short_value, short_sign, short_plus, short_base, short_spelt}
use Rattle.numbers.proofs.Texts.{separated_ten, radix_apart, base_is, body_is}
use Rattle.std.specs.Prelude.{Option, Some, None}

-- digits with their sign
signed_as : (β : ℕ) → β ≤ 16 → (t : List ℕ) (m : ℕ) → digits_from β 0 false (unsigned t) ≡ spelt m
    → (minus : Bool) (o : Option ℤ) → minus ≡ is_minus t → o ≡ fitted_of (signed minus m) → o ≡ int64_of (parsed_apart 63 β t)
signed_as β small t m e minus o g h =
    h ∙ ap (λ (x : Bool). fitted_of (signed x m)) g ∙ ap int64_of (sym (parsed_value β small 63 t m e))

-- WHAT A MAGNITUDE SAYS of the digits
value_spelt : (l m : ℕ) (s : Spelt) → magnitude_of l s ≡ Some m → s ≡ spelt m
value_spelt l m misspelt e = cc
value_spelt l m (spelt n) e = go (ltb n l) e
  where
    go : (x : Bool) → (if x then Some n else None) ≡ Some m → spelt n ≡ spelt m
    go true e = cc
    go false e = cc

refused_great : (l : ℕ) (s : Spelt) → magnitude_of l s ≡ None → Above l s
refused_great l misspelt e n k = absurd (let z : ◌≡◌ {A = ℕ} 0 1 = cc in let y : ⊥ = omega arith in y)
refused_great l (spelt m) e n k = go (ltb m l) refl e
  where
    go : (x : Bool) → ltb m l ≡ x → (if x then Some m else None) ≡ None → l ≤ n
    go true h e = absurd (let z : ◌≡◌ {A = ℕ} 0 1 = cc in let y : ⊥ = omega arith in y)
    go false h e = let z : m ≡ n = cc in let y = ltb-false m l h in omega arith

-- `read_ten`
module _ (s : ℕ) (t : List ℕ) (r : Option ℕ) (e : s ≡ sign_length t) (f : r ≡ tallied (digits_from 10 0 false (take (length t - s) (drop s t)))) where
  digits_are : r ≡ tallied (digits_from 10 0 false (unsigned t))
  digits_are = f ∙ ap (λ (u : List ℕ). tallied (digits_from 10 0 false u)) (tail_part s t ∙ ap (λ (n : ℕ). drop n t) e)

  pub ten_value : (m : ℕ) (minus : Bool) (o : Option ℤ) → r ≡ Some m → minus ≡ is_minus t → o ≡ fitted_of (signed minus m)
      → o ≡ int64_of (parsed_apart 63 10 t)
  ten_value m minus o k g h =
      signed_as 10 (omega arith) t m (value_spelt 9223372036854775810 m (digits_from 10 0 false (unsigned t)) (sym digits_are ∙ k)) minus o g h

  pub ten_refused : r ≡ None → None ≡ int64_of (parsed_apart 63 10 t)
  ten_refused k =
      ap int64_of (sym (parsed_great 10 (omega arith) 63 9223372036854775810 t (omega arith)
      (refused_great 9223372036854775810 (digits_from 10 0 false (unsigned t)) (sym digits_are ∙ k))))

-- `read_signed`
module _ (β s : ℕ) (t : List ℕ) (r : Option Halves) (w : radix_by β ≡ β) (e : s ≡ sign_length t)
    (f : r ≡ wide_of (digits_from (radix_by β) 0 false (take (length t - s) (drop s t)))) where
  pub signed_refused : r ≡ None → None ≡ int64_of (parsed_apart 63 β t)
  signed_refused k =
      ap int64_of (sym (parsed_great β (base_small β w) 63 (2 ^ 128) t (lit< tt)
      (wide_great (digits_from β 0 false (unsigned t)) (sym (radix_read β s t r w e f) ∙ k))))

  module _ (h : Halves) (k : r ≡ Some h) where
    halves_spelt : digits_from β 0 false (unsigned t) ≡ spelt (joined_halves h.hi h.lo)
    halves_spelt = wide_value h (digits_from β 0 false (unsigned t)) (sym (radix_read β s t r w e f) ∙ k)

    -- above 64 bits
    pub signed_wide : (h.hi ≡ 0 → ⊥) → None ≡ int64_of (parsed_apart 63 β t)
    signed_wide n = ap int64_of (sym (parsed_great β (base_small β w) 63 (2 ^ 64) t (lit< tt) (rw halves_spelt great)))
      where
        great : Above (2 ^ 64) (spelt (joined_halves h.hi h.lo))
        great m q = let z : joined_halves h.hi h.lo ≡ m = cc in let p = pos_of_ne-zero n in omega arith

    pub signed_value : h.hi ≡ 0 → (minus : Bool) (o : Option ℤ) → minus ≡ is_minus t → o ≡ fitted_of (signed minus h.lo)
        → o ≡ int64_of (parsed_apart 63 β t)
    signed_value z minus o g q = signed_as β (base_small β w) t h.lo (halves_spelt ∙ ap spelt (rw z (omega arith))) minus o g q

-- `read_radix`: the sign before the prefix
int_value : (z : ℤ) (x : Parsed) → int64_of x ≡ Some z → x ≡ int z
int_value z none e = cc
int_value z (int y) e = cc

int_refused : (x : Parsed) → int64_of x ≡ None → x ≡ none
int_refused none e = refl
int_refused (int y) e = cc

module _ (minus : Bool) (x : Parsed) (r : Option ℤ) (e : r ≡ int64_of x) where
  pub radix_negated : minus ≡ true → (z : ℤ) (o : Option ℤ) → SFits w64 z → r ≡ Some z → o ≡ fitted_of (neg_ℤ (to_z w64 (of_z w64 z)))
      → o ≡ int64_of (within_bits 63 (negated_by minus x))
  radix_negated m z o f k h = rw (m, int_value z x (sym e ∙ k)) (h ∙ ap (λ (y : ℤ). fitted_of (neg_ℤ y)) (to_z-of_z {w = w64} f))

  pub radix_plain : minus ≡ false → (z : ℤ) → SFits w64 z → r ≡ Some z → Some (to_z w64 (of_z w64 z)) ≡ int64_of (within_bits 63 (negated_by minus x))
  radix_plain m z f k = rw (m, int_value z x (sym e ∙ k), fits_size z f.sfits) (ap Some (to_z-of_z {w = w64} f))

  pub radix_refused : r ≡ None → None ≡ int64_of (within_bits 63 (negated_by minus x))
  radix_refused k = rw (int_refused x (sym e ∙ k))

-- `read_spelled`
module _ (t : List ℕ) where
  by_ten : base_of t ≡ 10 → i64_of t ≡ parsed_apart 63 10 t
  unfolding i64_of parsed_apart
  by_ten e = rw (e, separated_ten t e) (go (placed 10 0 t))
    where
      go : (x : Bool) → (if not x then none else parsed 63 10 (strip t)) ≡ (if x then parsed 63 10 (strip t) else none)
      go true = refl
      go false = refl

  by_radix : (base_of t ≡ 10 → ⊥) → i64_of t ≡ within_bits 63 (negated_by (is_minus t) (parsed_apart 63 (base_of t) (drop 2 (unsigned t))))
  unfolding i64_of
  by_radix n = rw (ne_eqb (base_of t) 10 n) (radix_apart t n 63)

module _ (t : List ℕ) (s : ℕ) (p : RadixPrefix) (e : s ≡ sign_length t) (q : p ≡ radix_prefix (take (length t - s) (drop s t))) where
  pub i64_ten : p.base ≡ 10 → (o : Option ℤ) → o ≡ int64_of (parsed_apart 63 10 t) → o ≡ int64_of (i64_of t)
  i64_ten k o h = h ∙ ap int64_of (sym (by_ten t (sym (base_is t s p e q) ∙ k)))

  pub i64_radix : (p.base ≡ 10 → ⊥) → (minus : Bool) → minus ≡ is_minus t → (o : Option ℤ)
      → o ≡ int64_of (within_bits 63 (negated_by minus (parsed_apart 63 p.base
      (take (length (take (length t - s) (drop s t)) - 2) (drop 2 (take (length t - s) (drop s t)))))))
      → o ≡ int64_of (i64_of t)
  i64_radix n minus g o h =
      h ∙ rw (g, body_is t s p e q n, base_is t s p e q) (ap int64_of (sym (by_radix t (λ z. n (base_is t s p e q ∙ z)))))

-- `read_unsigned`, `read_behind_sign`: digits alone, u, behind a sign or none
module _ (t u : List ℕ) (r : Option ℕ) (m : ℕ) (o : Option ℤ) (e : r ≡ short_of u) (k : r ≡ Some m) where
  short_known : (0 < length u) × (all_digits 10 u ≡ true) × (number 10 (length u) 0 u ≡ m)
  short_known = short_value u m (sym e ∙ k)

  short_all : DigitsTo 10 (length u) u
  short_all = all_digits_at 10 u short_known.1

  short_i64 : unsigned t ≡ u → (minus : Bool) → minus ≡ is_minus t → o ≡ fitted_of (signed minus m) → o ≡ int64_of (i64_of t)
  short_i64 s minus g h =
      signed_as 10 (omega arith) t m (rw s (short_spelt u short_known.0 short_all ∙ ap spelt short_known.2)) minus o g h
      ∙ ap int64_of (sym (by_ten t (ap (λ (x : List ℕ). (radix_prefix x).base) s ∙ short_base u short_all)))

pub unsigned_i64 : (t : List ℕ) (r : Option ℕ) (m : ℕ) (o : Option ℤ) → r ≡ short_of t → r ≡ Some m → o ≡ fitted_of (signed false m) → o ≡ int64_of (i64_of t)
unsigned_i64 t r m o e k h =
    let p = (short_known t t r m o e k).0 in
    let all = short_all t t r m o e k in
    short_i64 t t r m o e k (ap (λ (n : ℕ). drop n t) (short_sign t p all)) false (sym (short_plus t p all)) h

pub behind_i64 : (t : List ℕ) (r : Option ℕ) (m : ℕ) (minus : Bool) (o : Option ℤ) → sign_length t ≡ 1
    → r ≡ short_of (take (length t - 1) (drop 1 t)) → r ≡ Some m → minus ≡ is_minus t → o ≡ fitted_of (signed minus m) → o ≡ int64_of (i64_of t)
behind_i64 t r m minus o s e k g h =
    short_i64 t (take (length t - 1) (drop 1 t)) r m o e k (ap (λ (n : ℕ). drop n t) s ∙ sym (tail_part 1 t)) minus g h
