-- Two halves times a power of two, and what a loop that reads digits into two halves keeps. Once for bases 2, 8 and 16: R is the base, C the rest of
-- the half, and m, a half's size, a variable. Assumes nothing.
use mathlib.Core.Path.{◌≡◌, refl, ap, sym, ◌∙◌, subst}
use mathlib.Core.Bool.{Bool, true, false}
use mathlib.Core.List.{List}
use Prim.Native.Nat.{ℕ, ◌+◌, ◌-◌, ◌*◌, ◌/◌, ◌%◌, ◌^◌, ◌≤◌, ◌<◌}
use native.Mathlib.Nat.{div-lt_iff_lt-mul, div-add-mod', div-eq_of_lt, mod-lt, add-mul, mul_assoc}
use native.Mathlib.Nat.{pow-le-pow_right, one-mul, mod-eq_of_lt}
use native.Mathlib.Nat.{mul_comm, mul-le-mul_right, mul-div_cancel, mul-mod_left, add-zero, le-add_right, lt_of_le_of_lt}
use native.Mathlib.Omega.{arith}
use borrow.Author.Tests.{lt-ltb, le-ltb, ltb-true, ltb-false}
use mir.Syntax.{w64}
use mir.Val.{Fits}
use lib.Arith.{digits_lt, digits_div, digits_mod, mod-mul}
use lib.Dec.{ltb, lit≤}
use lib.Pow.{pow-add, pow_pos}
use lib.ListN.{length, get_or}
use Rattle.meaning.specs.Bytes.{digit}
use Rattle.meaning.specs.Halves.{joined_halves}
use Rattle.laws.proofs.basics.Halves.{joined_halves_lt}
use Rattle.numbers.specs.Values.{Spelt, misspelt, spelt, digits_from, wide_of}
use Rattle.numbers.proofs.Spelled.{Above, Reading, reading_start, too_great, digit_on, ends_spelt}
use Rattle.std.specs.Prelude.{Option, Some, None}
use Rattle.numbers.specs.Values.{in_halves}
use Rattle.numbers.specs.declared.radix.Halves.{Halves}

module _ (m R C hi lo d : ℕ) (e : R * C ≡ m) (p : 0 < R) (q : 0 < C) where
  swapped : C * R ≡ m
  swapped = mul_comm C R ∙ e

  low_part : lo * R % m ≡ lo % C * R
  low_part =
      ap (λ (x : ℕ). lo * R % x) (sym swapped) ∙ mod-mul (lo * R) {m = C} {c = R} q p
      ∙ rw (mul-div_cancel lo p, mul-mod_left lo R) (add-zero (lo % C * R))

  -- the low half, shifted, and what it carries
  low_sum : lo / C * m + lo % C * R ≡ lo * R
  low_sum =
      sym (ap (λ (x : ℕ). x * R) (sym (div-add-mod' lo C)) ∙ add-mul (lo / C * C) (lo % C) R
      ∙ ap (λ (x : ℕ). x + lo % C * R) (mul_assoc (lo / C) C R ∙ ap (λ (x : ℕ). lo / C * x) swapped))

  carry_sum : (hi * R + lo / C) * m + (lo * R % m + d) ≡ (hi * m + lo) * R + d
  carry_sum =
      let a : (hi * R + lo / C) * m ≡ hi * R * m + lo / C * m = add-mul (hi * R) (lo / C) m in
      let b : (hi * m + lo) * R ≡ hi * m * R + lo * R = add-mul (hi * m) lo R in
      let x : hi * R * m ≡ hi * m * R = mul_assoc hi R m ∙ ap (λ (y : ℕ). hi * y) (mul_comm R m) ∙ sym (mul_assoc hi m R) in
      omega (arith, low_sum, low_part)

  carry_low : d < R → lo * R % m + d < m
  carry_low h = subst (λ (x : ℕ). x + d < m) (sym low_part) (subst (λ (x : ℕ). lo % C * R + d < x) swapped (digits_lt (mod-lt lo q) h))

  carry_high : hi < C → lo < m → hi * R + lo / C < m
  carry_high h k =
      subst (λ (x : ℕ). hi * R + lo / C < x) swapped
      (digits_lt h ((div-lt_iff_lt-mul q).1 (subst (λ (x : ℕ). lo < x) (sym e) k)))

  -- a high half of C or more is pushed out
  carry_over : C ≤ hi → m * m ≤ (hi * m + lo) * R + d
  carry_over h =
      let a : C * m * R ≤ hi * m * R = mul-le-mul_right R (mul-le-mul_right m h) in
      let b : C * m * R ≡ m * m = mul_assoc C m R ∙ ap (λ (y : ℕ). C * y) (mul_comm m R) ∙ sym (mul_assoc C R m) ∙ ap (λ (y : ℕ). y * m) swapped in
      let c : (hi * m + lo) * R ≡ hi * m * R + lo * R = add-mul (hi * m) lo R in
      omega arith

-- the base whose digits have b bits
pub base_by_bits : (b : ℕ) → b ≤ 4 → 1 * 2 ^ b % 2 ^ 64 ≡ 2 ^ b
base_by_bits b h =
    let o : 0 < 2 = omega arith in
    let l : 2 ^ b < 2 ^ 64 = lt_of_le_of_lt (pow-le-pow_right o h) (lit≤ tt) in
    ap (λ (x : ℕ). x % 2 ^ 64) (one-mul (2 ^ b)) ∙ mod-eq_of_lt l

pub in_base : (b : ℕ) → b ≤ 4 → (t : List ℕ) (r : Option Halves) → r ≡ wide_of (digits_from (1 * 2 ^ b % 2 ^ 64) 0 false t)
    → r ≡ wide_of (digits_from (2 ^ b) 0 false t)
in_base b h t r e = rw (base_by_bits b h) at e

-- a half of 64 bits, less b of them
halves_of_lem : (b : ℕ) → b ≤ 4 → 2 ^ b * 2 ^ (64 - b) ≡ 2 ^ 64
halves_of_lem b h = sym (pow-add 2 b (64 - b)) ∙ ap (λ (n : ℕ). 2 ^ n) (let z : b + (64 - b) ≡ 64 = omega arith in z)

pub wide_as : {s : Spelt} → misspelt ≡ s → None ≡ wide_of s
wide_as e = ap wide_of e

wide_above : (s : Spelt) → Above (2 ^ 128) s → None ≡ wide_of s
wide_above misspelt h = refl
wide_above (spelt n) h = rw (le-ltb n (2 ^ 128) (h n refl))

-- the invariant of `read_halves`
pub record Carrying (β : ℕ) (t : List ℕ) (hi lo : ℕ) (behind : Bool) (i : ℕ) : Type 0 where
  pub reading : Reading β t (joined_halves hi lo) behind i
  pub high : hi < 2 ^ 64
  pub low : lo < 2 ^ 64

pub carry_start : (β : ℕ) (t : List ℕ) → Carrying β t 0 0 false 0
carry_start β t = record { reading = reading_start β t; high = omega arith; low = omega arith }

pub halves_value : (hi lo : ℕ) → lo < 2 ^ 64 → Some (in_halves hi lo) ≡ Some (in_halves (joined_halves hi lo / 2 ^ 64) (joined_halves hi lo % 2 ^ 64))
halves_value hi lo h = rw (digits_div hi {m = 2 ^ 64} h, digits_mod hi {m = 2 ^ 64} h)

module _ {β : ℕ} {t : List ℕ} {hi lo : ℕ} {a : Bool} {i : ℕ} (r : Carrying β t hi lo a i) where
  pub carry_end : length t ≤ i → a ≡ true → Some (in_halves hi lo) ≡ wide_of (digits_from β 0 false t)
  carry_end h k =
      rw (← (ends_spelt r.reading h k), lt-ltb (joined_halves hi lo) (2 ^ 128) (joined_halves_lt hi lo r.high r.low))
      (halves_value hi lo r.low)

  -- a digit of b bits
  module _ {b d : ℕ} (at : i < length t) (e : d ≡ digit (get_or t i 0)) (h : d < β) (w : β ≡ 2 ^ b) (s : b ≤ 4) where
    split : β * 2 ^ (64 - b) ≡ 2 ^ 64
    split = rw w (halves_of_lem b s)

    room : hi / 2 ^ (64 - b) ≡ 0 → hi < 2 ^ (64 - b)
    room z = let k : hi < 1 * 2 ^ (64 - b) = (div-lt_iff_lt-mul (pow_pos (64 - b))).0 (omega arith) in omega arith

    full : (hi / 2 ^ (64 - b) ≡ 0 → ⊥) → 2 ^ (64 - b) ≤ hi
    full n = go (ltb hi (2 ^ (64 - b))) refl
      where
        go : (x : Bool) → ltb hi (2 ^ (64 - b)) ≡ x → 2 ^ (64 - b) ≤ hi
        go true k = absurd (n (div-eq_of_lt (ltb-true hi (2 ^ (64 - b)) k)))
        go false k = ltb-false hi (2 ^ (64 - b)) k

    pub carried_over : (hi / 2 ^ (64 - b) ≡ 0 → ⊥) → None ≡ wide_of (digits_from β 0 false t)
    carried_over n =
        wide_above (digits_from β 0 false t)
        (too_great r.reading at e h (2 ^ 128) (carry_over (2 ^ 64) β (2 ^ (64 - b)) hi lo d split (omega arith) (pow_pos (64 - b)) (full n)))

    module _ (z : hi / 2 ^ (64 - b) ≡ 0) where
      pub carried_high : Fits w64 (hi * β + lo / 2 ^ (64 - b))
      carried_high = record { fits = carry_high (2 ^ 64) β (2 ^ (64 - b)) hi lo d split (omega arith) (pow_pos (64 - b)) (room z) r.low }

      pub carried_product : Fits w64 (hi * β)
      carried_product = record { fits = lt_of_le_of_lt (le-add_right (hi * β) (lo / 2 ^ (64 - b))) carried_high.fits }

      pub carried_low : Fits w64 (lo * 2 ^ b % 2 ^ 64 + d)
      carried_low = record {
        fits =
            subst (λ (x : ℕ). lo * x % 2 ^ 64 + d < 2 ^ 64) w
            (carry_low (2 ^ 64) β (2 ^ (64 - b)) hi lo d split (omega arith) (pow_pos (64 - b)) h);
      }

      carried_sum : joined_halves (hi * β + lo / 2 ^ (64 - b)) (lo * 2 ^ b % 2 ^ 64 + d) ≡ joined_halves hi lo * β + d
      carried_sum =
          subst (λ (x : ℕ). joined_halves (hi * β + lo / 2 ^ (64 - b)) (lo * x % 2 ^ 64 + d) ≡ joined_halves hi lo * β + d) w
          (carry_sum (2 ^ 64) β (2 ^ (64 - b)) hi lo d split (omega arith) (pow_pos (64 - b)))

      pub carried_on : Carrying β t (hi * β + lo / 2 ^ (64 - b)) (lo * 2 ^ b % 2 ^ 64 + d) true (i + 1)
      carried_on = record {
        reading = subst (λ (v : ℕ). Reading β t v true (i + 1)) (sym carried_sum) (digit_on r.reading at e h);
        high = carried_high.fits;
        low = carried_low.fits;
      }
