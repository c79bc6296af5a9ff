-- A text that is nothing but digits of base ten: the loop over it, and that it has no sign and no radix prefix. Assumes nothing.
use mathlib.Core.Path.{◌≡◌, refl, ap, sym, subst}
use mathlib.Core.Bool.{Bool, true, false, ◌||◌, false≢true}
use mathlib.Core.List.{List, [], ◌∷◌}
use Prim.Native.Nat.{ℕ, zero, suc, ◌+◌, ◌-◌, ◌*◌, ◌^◌, ◌≤◌, ◌<◌}
use Prim.Native.Char.{code}
use native.Mathlib.Nat.{pow-le-pow_right, lt_of_lt_of_le, lt_of_le_of_lt, le-add_right}
use native.Mathlib.Numerals.{add-one}
use native.Mathlib.Omega.{arith}
use borrow.Author.Count.{below_more}
use borrow.Author.Tests.{lt-ltb, ltb-false, ne_eqb}
use lib.Dec.{eqb, ltb, lit≤}
use lib.ListN.{length, get_or}
use mir.Syntax.{w64}
use mir.Val.{Fits}
use Rattle.meaning.specs.Bytes.{◌!◌, within, digit, number, all_digits}
use Rattle.std.specs.Prelude.{if◌then◌else◌}
use Rattle.meaning.specs.Numbers.{sign_length, is_minus, base_by, radix_prefix}
use Rattle.laws.proofs.basics.Tests.{within_bounds, if_same}
use Rattle.laws.proofs.basics.Digits.{DigitsTo, all_digits_of, all_digits_at, number_suc, number_lt}
use Rattle.numbers.specs.Values.{spelt, digits_from, short_of}
use Rattle.std.specs.Prelude.{Some, None}

-- THE LOOP of `read_short`. Too short or too long a text
abbrev is_unfit : List ℕ → Bool
is_unfit t = eqb (length t) 0 || ltb 19 (length t)

pub short_not : (t : List ℕ) → is_unfit t ≡ true → None ≡ short_of t
unfolding short_of
short_not t e = rw e

fit_le : (n : ℕ) → (eqb n 0 || ltb 19 n) ≡ false → n ≤ 19
fit_le n e = go (eqb n 0) (ltb 19 n) refl e
  where
    go : (x y : Bool) → ltb 19 n ≡ y → (x || y) ≡ false → n ≤ 19
    go x false h k = ltb-false 19 n h
    go true true h k = absurd (false≢true (sym k))
    go false true h k = absurd (false≢true (sym k))

-- the bytes so far are digits, and v is their number
pub record Running (t : List ℕ) (v i : ℕ) : Type 0 where
  pub fit : is_unfit t ≡ false
  pub inside : i ≤ length t
  pub all : DigitsTo 10 i t
  pub value : v ≡ number 10 i 0 t

pub run_start : (t : List ℕ) → is_unfit t ≡ false → Running t 0 0
run_start t e = record { fit = e; inside = omega arith; all = λ j h. absurd (omega arith); value = refl }

module _ {t : List ℕ} {v i : ℕ} (r : Running t v i) where
  pub run_end : length t ≤ i → Some v ≡ short_of t
  unfolding short_of
  run_end h =
      let e : i ≡ length t = omega (arith, r.inside) in
      rw (r.fit, all_digits_of 10 t (rw e at r.all)) (ap Some (rw e at r.value))

  module _ {d : ℕ} (at : i < length t) (e : d ≡ digit (get_or t i 0)) where
    pub run_stop : 10 ≤ d → None ≡ short_of t
    unfolding short_of
    run_stop h = rw r.fit (go (all_digits 10 t) refl)
      where
        go : (x : Bool) → all_digits 10 t ≡ x → None ≡ (if x then Some (number 10 (length t) 0 t) else None)
        go true k = absurd (let z = all_digits_at 10 t k i at in let y : ⊥ = omega arith in y)
        go false k = refl

    module _ (h : d < 10) where
      next : DigitsTo 10 (i + 1) t
      next = below_more (λ (j : ℕ). digit (t ! j) < 10) i r.all (rw e at h)

      pub run_on : Running t (v * 10 + d) (i + 1)
      run_on = record {
        fit = r.fit;
        inside = omega arith;
        all = next;
        value = rw (add-one i, number_suc 10 i 0 t at, r.value, e);
      }

      below : v * 10 + d < 10 ^ 19
      below =
          let n = fit_le (length t) r.fit in
          let p : i + 1 ≤ 19 = omega arith in
          let q : 1 ≤ 10 = omega arith in
          subst (λ (x : ℕ). x < 10 ^ 19) (sym run_on.value) (lt_of_lt_of_le (number_lt 10 (i + 1) t (omega arith) next) (pow-le-pow_right q p))

      pub run_sum : Fits w64 (v * 10 + d)
      run_sum = record { fits = lt_of_lt_of_le below (lit≤ tt) }

      pub run_product : Fits w64 (v * 10)
      run_product = record { fits = lt_of_le_of_lt (le-add_right (v * 10) d) run_sum.fits }

-- NO SIGN, NO PREFIX
ten_digit : (b : ℕ) → digit b < 10 → (48 ≤ b) × (b ≤ 57)
unfolding digit within
ten_digit b h = go (within 48 57 b) (within 65 70 b) (within 97 102 b) refl refl refl h
  where
    go : (x y z : Bool) → within 48 57 b ≡ x → within 65 70 b ≡ y → within 97 102 b ≡ z
        → (if x then b - 48 else if y then b - 55 else if z then b - 87 else 16) < 10 → (48 ≤ b) × (b ≤ 57)
    go true y z ex ey ez h = within_bounds 48 57 b ex
    go false true z ex ey ez h = absurd (let w = within_bounds 65 70 b ey in let n : ⊥ = omega arith in n)
    go false false true ex ey ez h = absurd (let w = within_bounds 97 102 b ez in let n : ⊥ = omega arith in n)
    go false false false ex ey ez h = absurd (let n : ⊥ = omega arith in n)

no_base : (c : ℕ) → c ≤ 57 → base_by c ≡ 10
unfolding base_by
no_base c h =
    rw (
      ne_eqb c 120 (λ e. let n : ⊥ = omega arith in n),
      ne_eqb c 88 (λ e. let n : ⊥ = omega arith in n),
      ne_eqb c 111 (λ e. let n : ⊥ = omega arith in n),
      ne_eqb c 79 (λ e. let n : ⊥ = omega arith in n),
      ne_eqb c 98 (λ e. let n : ⊥ = omega arith in n),
      ne_eqb c 66 (λ e. let n : ⊥ = omega arith in n),
    )

digits_on : (v : ℕ) (t : List ℕ) → DigitsTo 10 (length t) t → digits_from 10 v true t ≡ spelt (number 10 (length t) v t)
digits_on v [] all = refl
digits_on v (b ∷ t) all =
    rw (lt-ltb (digit b) 10 (all 0 (omega arith))) (digits_on (v * 10 + digit b) t (λ i h. all (suc i) (omega arith)))

module _ (t : List ℕ) (p : 0 < length t) (all : DigitsTo 10 (length t) t) where
  first : (48 ≤ t ! 0) × (t ! 0 ≤ 57)
  first = ten_digit (t ! 0) (all 0 p)

  pub short_sign : sign_length t ≡ 0
  unfolding sign_length
  short_sign =
      let h = first in
      rw (ne_eqb (t ! 0) 43 (λ e. let n : ⊥ = omega arith in n), ne_eqb (t ! 0) 45 (λ e. let n : ⊥ = omega arith in n))

  pub short_plus : is_minus t ≡ false
  unfolding is_minus
  short_plus = let h = first in ne_eqb (t ! 0) 45 (λ e. let n : ⊥ = omega arith in n)

second : (t : List ℕ) → DigitsTo 10 (length t) t → t ! 1 ≤ 57
second [] all = omega arith
second (b ∷ []) all = omega arith
second (b ∷ c ∷ t) all = (ten_digit c (all 1 (omega arith))).1

pub short_base : (t : List ℕ) → DigitsTo 10 (length t) t → (radix_prefix t).base ≡ 10
unfolding radix_prefix
short_base t all = rw (no_base (t ! 1) (second t all)) (if_same (eqb (t ! 0) (code "0")) 10)

pub short_spelt : (t : List ℕ) → 0 < length t → DigitsTo 10 (length t) t → digits_from 10 0 false t ≡ spelt (number 10 (length t) 0 t)
short_spelt [] p all = absurd (let n : ⊥ = omega arith in n)
short_spelt (b ∷ t) p all = rw (lt-ltb (digit b) 10 (all 0 p)) (digits_on (0 * 10 + digit b) t (λ i h. all (suc i) (omega arith)))

-- what a number from `read_short` says
pub short_value : (t : List ℕ) (m : ℕ) → short_of t ≡ Some m → (0 < length t) × (all_digits 10 t ≡ true) × (number 10 (length t) 0 t ≡ m)
unfolding short_of
short_value t m e = go (is_unfit t) (all_digits 10 t) refl refl e
  where
    go : (x y : Bool) → is_unfit t ≡ x → all_digits 10 t ≡ y
        → (if x then None else if y then Some (number 10 (length t) 0 t) else None) ≡ Some m
        → (0 < length t) × (all_digits 10 t ≡ true) × (number 10 (length t) 0 t ≡ m)
    go true y ex ey e = absurd (let z : ◌≡◌ {A = ℕ} 0 1 = cc in let n : ⊥ = omega arith in n)
    go false true ex ey e = (some (length t) ex, ey, cc)
      where
        some : (n : ℕ) → (eqb n 0 || ltb 19 n) ≡ false → 0 < n
        some zero e = absurd (false≢true (sym e))
        some (suc n) e = omega arith
    go false false ex ey e = absurd (let z : ◌≡◌ {A = ℕ} 0 1 = cc in let n : ⊥ = omega arith in n)
