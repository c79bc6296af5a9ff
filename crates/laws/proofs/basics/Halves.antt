-- A signed number of 128 bits in two halves: its negation half by half, its bits, its decimal text and how long that is. The numbers
-- 2^64 and 2^127 are variables m and B in the proofs. Assumes nothing.
use mathlib.Core.Path.{◌≡◌, refl, ap, sym, ◌∙◌}
use mathlib.Core.Bool.{Bool, true, false}
use mathlib.Core.List.{[], ◌∷◌, ◌++◌}
use Prim.Native.Nat.{ℕ, zero, suc, ◌+◌, ◌-◌, ◌*◌, ◌/◌, ◌%◌, ◌^◌, ◌≤◌, ◌<◌}
use native.Mathlib.Nat.{lt_of_lt_of_le, mod-eq_of_lt, mod_self, add-mod_left, div-lt_iff_lt-mul, pow-suc}
use native.Mathlib.Omega.{arith}
use borrow.Author.Tests.{ltb-true, ltb-false, lt-ltb, le-ltb}
use lib.Arith.{digits_lt}
use lib.Dec.{ltb, eqb, eqb-suc-zero, lit≤, lit<}
use lib.IntN.{ℤ, pos, negsuc, neg_ℤ}
use lib.ListN.{length, length-append}
use Rattle.std.specs.Prelude.{if◌then◌else◌}
use Rattle.meaning.specs.Numbers.{fits, digits_by, digits_of, printed}
use Rattle.meaning.specs.Halves.{joined_halves, bits_of, text_of, negated_low, negated_high}

-- NEGATION. What is n short of N is N's complement of n
complement : (N n r : ℕ) → r + n ≡ N → 0 < n → r ≡ (N - n) % N
complement N n r e h = rw (let z : N - n ≡ r = omega arith in z) (sym (mod-eq_of_lt (let z : r < N = omega arith in z)))

-- c is the borrow
with_borrow : (m hi lo H L c : ℕ) → H + hi + c ≡ m → L + lo ≡ c * m → 0 < hi * m + lo → H * m + L ≡ (m * m - (hi * m + lo)) % (m * m)
with_borrow m hi lo H L c h l p = complement (m * m) (hi * m + lo) (H * m + L) (omega (arith, ap (λ (x : ℕ). x * m) h)) p

past : (m x : ℕ) → x < m → (m + x) % m ≡ x
past m x h = add-mod_left m x ∙ mod-eq_of_lt h

negated_by_lem : (m hi lo : ℕ) → hi < m → lo < m
    → ((m + m - hi - (if eqb lo 0 then 0 else 1)) % m) * m + (m - lo) % m ≡ (m * m - (hi * m + lo)) % (m * m)
negated_by_lem m zero zero h l =
    let e : m + m - 0 - 0 ≡ m + m = omega arith in
    let f : m - 0 ≡ m = omega arith in
    let g : m * m - (0 * m + 0) ≡ m * m = omega arith in
    rw (e, f, g, add-mod_left m m, mod_self m, mod_self (m * m)) (omega arith)
negated_by_lem m (suc hi) zero h l =
    let e : m + m - suc hi - 0 ≡ m + (m - suc hi) = omega arith in
    let f : m - 0 ≡ m = omega arith in
    rw (e, f, past m (m - suc hi) (omega arith), mod_self m)
    (with_borrow m (suc hi) 0 (m - suc hi) 0 0 (omega arith) (omega arith) (omega arith))
negated_by_lem m hi (suc lo) h l =
    let e : m + m - hi - 1 ≡ m + (m - 1 - hi) = omega arith in
    let f : m - suc lo < m = omega arith in
    rw (eqb-suc-zero lo, e, past m (m - 1 - hi) (omega arith), mod-eq_of_lt f)
    (with_borrow m hi (suc lo) (m - 1 - hi) (m - suc lo) 1 (omega arith) (omega arith) (omega arith))

pub joined_halves_lt : (hi lo : ℕ) → hi < 2 ^ 64 → lo < 2 ^ 64 → joined_halves hi lo < 2 ^ 128
joined_halves_lt hi lo h l = digits_lt {q = hi} {m = 2 ^ 64} {r = lo} {c = 2 ^ 64} h l

pub joined_halves_negated : (hi lo : ℕ) → hi < 2 ^ 64 → lo < 2 ^ 64
    → joined_halves (negated_high hi lo) (negated_low lo) ≡ (2 ^ 128 - joined_halves hi lo) % 2 ^ 128
unfolding negated_high negated_low
joined_halves_negated hi lo h l = negated_by_lem (2 ^ 64) hi lo h l

-- THE BITS of a number from -B to B - 1
module _ (B n : ℕ) (small : n < B) where
  twice_sub : (B + B) - ((B + B) - suc n) ≡ suc n
  twice_sub = omega arith

  upper : B ≤ (B + B) - suc n
  upper = omega arith

  below : (B + B) - suc n < B + B
  below = omega arith

  back : suc n ≡ ((B + B) - ((B + B) - suc n)) % (B + B)
  back = complement (B + B) ((B + B) - suc n) (suc n) (omega arith) (omega arith)

less : (N n : ℕ) → 0 < N → N - suc n < N
less N n h = omega arith

pub bits_of_lt : (z : ℤ) → fits 127 z ≡ true → bits_of z < 2 ^ 128
bits_of_lt (pos n) f = lt_of_lt_of_le (ltb-true n (2 ^ 127) f) (lit≤ tt)
bits_of_lt (negsuc n) f = below (2 ^ 127) n (ltb-true n (2 ^ 127) f)

pub bits_of_negated : (z : ℤ) → fits 127 z ≡ true → bits_of (neg_ℤ z) ≡ (2 ^ 128 - bits_of z) % 2 ^ 128
bits_of_negated (pos zero) f = refl
bits_of_negated (pos (suc n)) f = sym (mod-eq_of_lt (less (2 ^ 128) n (lit< tt)))
bits_of_negated (negsuc n) f = back (2 ^ 127) n (ltb-true n (2 ^ 127) f)

-- so the halves of a number's bits, negated, are those of its negation
pub negated_halves_lem : (z : ℤ) (hi lo : ℕ) → fits 127 z ≡ true → hi < 2 ^ 64 → lo < 2 ^ 64 → joined_halves hi lo ≡ bits_of z
    → joined_halves (negated_high hi lo) (negated_low lo) ≡ bits_of (neg_ℤ z)
negated_halves_lem z hi lo f h l e =
    joined_halves_negated hi lo h l ∙ ap (λ (n : ℕ). (2 ^ 128 - n) % 2 ^ 128) e ∙ sym (bits_of_negated z f)

-- THE TEXT
pub text_of_printed : (z : ℤ) → fits 127 z ≡ true → text_of (bits_of z) ≡ printed z
unfolding text_of
text_of_printed (pos n) f = rw f
text_of_printed (negsuc n) f =
    let s = ltb-true n (2 ^ 127) f in
    rw (le-ltb (2 ^ 128 - suc n) (2 ^ 127) (upper (2 ^ 127) n s), twice_sub (2 ^ 127) n s)

-- THE DIGITS of a number in decimal: the fuel does not matter
by_small : (f n : ℕ) → n < 10 → digits_by f n ≡ (48 + n) ∷ []
unfolding digits_by
by_small zero n h = refl
by_small (suc f) n h = rw (lt-ltb n 10 h, digits_by)

by_step : (f n : ℕ) → 10 ≤ n → digits_by (suc f) n ≡ digits_by f (n / 10) ++ ((48 + n % 10) ∷ [])
unfolding digits_by
by_step f n h = rw (le-ltb n 10 h, digits_by)

pub small_or : {A : Type 0} (n : ℕ) → (n < 10 → A) → (10 ≤ n → A) → A
small_or {A} n f g = go (ltb n 10) refl
  where
    go : (x : Bool) → ltb n 10 ≡ x → A
    go true e = f (ltb-true n 10 e)
    go false e = g (ltb-false n 10 e)

fuel : (f g n : ℕ) → n ≤ f → n ≤ g → digits_by f n ≡ digits_by g n
fuel zero g n hf hg = by_small zero n (omega arith) ∙ sym (by_small g n (omega arith))
fuel (suc f) zero n hf hg = by_small (suc f) n (omega arith) ∙ sym (by_small zero n (omega arith))
fuel (suc f) (suc g) n hf hg =
    small_or n (λ h. by_small (suc f) n h ∙ sym (by_small (suc g) n h))
    (λ h. by_step f n h ∙ ap (◌++ ((48 + n % 10) ∷ [])) (fuel f g (n / 10) (omega arith) (omega arith)) ∙ sym (by_step g n h))

pub digits_of_small : (n : ℕ) → n < 10 → digits_of n ≡ (48 + n) ∷ []
unfolding digits_of
digits_of_small n h = by_small n n h

pub digits_of_step : (n : ℕ) → 10 ≤ n → digits_of n ≡ digits_of (n / 10) ++ ((48 + n % 10) ∷ [])
unfolding digits_of
digits_of_step n h =
    fuel n (suc n) n (omega arith) (omega arith) ∙ by_step n n h
    ∙ ap (◌++ ((48 + n % 10) ∷ [])) (fuel n (n / 10) (n / 10) (omega arith) (omega arith))

pub digits_of_more : (n : ℕ) → 10 ≤ n → length (digits_of n) ≡ length (digits_of (n / 10)) + 1
digits_of_more n h = ap length (digits_of_step n h) ∙ length-append (digits_of (n / 10)) ((48 + n % 10) ∷ [])

pub digits_of_length : (k n : ℕ) → n < 10 ^ suc k → length (digits_of n) ≤ suc k
digits_of_length zero n h = rw (digits_of_small n h) (omega arith)
digits_of_length (suc k) n h =
    small_or n (λ s. rw (digits_of_small n s) (omega arith))
    (λ s.
    let r = digits_of_length k (n / 10) ((div-lt_iff_lt-mul (let z : 0 < 10 = omega arith in z)).1 (rw (pow-suc 10 (suc k)) at h)) in
    rw (digits_of_step n s, length-append) (omega arith))

pub printed_length : (z : ℤ) → fits 127 z ≡ true → length (printed z) ≤ 40
printed_length (pos n) f =
    let r = digits_of_length 38 n (lt_of_lt_of_le (ltb-true n (2 ^ 127) f) (lit≤ tt)) in omega arith
printed_length (negsuc n) f =
    let r = digits_of_length 38 (suc n) (lt_of_lt_of_le {m = suc (2 ^ 127)} (let s = ltb-true n (2 ^ 127) f in upto (2 ^ 127) n s) (lit≤ tt)) in
    omega arith
  where
    upto : (B n : ℕ) → n < B → suc n < suc B
    upto B n h = omega arith
