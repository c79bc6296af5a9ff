-- Laws of digits, once over the base β and the width w: how many stand at the front of a text, and the number that they make.
-- Assumes nothing.
use mathlib.Core.Path.{◌≡◌, refl, ap}
use mathlib.Core.Bool.{Bool, true, false}
use mathlib.Core.List.{List, [], ◌∷◌}
use Prim.Native.Nat.{ℕ, zero, suc, ◌+◌, ◌-◌, ◌*◌, ◌^◌, ◌≤◌, ◌<◌}
use native.Mathlib.Nat.{lt_of_lt_of_le, mul-le-mul_right, one-mul, pow-zero, pow-succ', mul_assoc, le_of_eq}
use native.Mathlib.Omega.{arith}
use borrow.Author.Tests.{ltb-true, lt-ltb, le-ltb, eqb-true, eq-eqb}
use lib.Dec.{ltb}
use lib.ListN.{length}
use Rattle.meaning.specs.Bytes.{◌!◌, within, digit, digits, number, all_digits}
use Rattle.std.specs.Prelude.{if◌then◌else◌}
use Rattle.laws.proofs.basics.Tests.{within_bounds}

-- every byte before place n is a digit of base β
abbrev pub DigitsTo : ℕ → ℕ → List ℕ → Type 0
DigitsTo β n t = (i : ℕ) → i < n → digit (t ! i) < β

-- a digit is ASCII
pub digit_low : (b : ℕ) → digit b < 16 → b < 0x80
unfolding digit
digit_low b h = go (within 48 57 b) (within 65 70 b) (within 97 102 b) refl refl refl h
  where
    go : (x y z : Bool) → within 48 57 b ≡ x → within 65 70 b ≡ y → within 97 102 b ≡ z
        → (if x then b - 48 else if y then b - 55 else if z then b - 87 else 16) < 16 → b < 0x80
    go true y z e f g h = let k = within_bounds 48 57 b e in omega arith
    go false true z e f g h = let k = within_bounds 65 70 b f in omega arith
    go false false true e f g h = let k = within_bounds 97 102 b g in omega arith
    go false false false e f g h = absurd (omega arith)

-- HOW MANY. No more than the width or the text
digits_fit : (β w : ℕ) (t : List ℕ) → (digits β w t ≤ w) × (digits β w t ≤ length t)
digits_fit β zero t = omega arith
digits_fit β (suc w) [] = omega arith
digits_fit β (suc w) (b ∷ t) = go (ltb (digit b) β) (digits_fit β w t)
  where
    go : (x : Bool) → (digits β w t ≤ w) × (digits β w t ≤ length t)
        → ((if x then suc (digits β w t) else 0) ≤ suc w) × ((if x then suc (digits β w t) else 0) ≤ suc (length t))
    go true ih = omega arith
    go false ih = omega arith

pub digits_le : (β w : ℕ) (t : List ℕ) → digits β w t ≤ w
digits_le β w t = (digits_fit β w t).0

pub digits_length : (β w : ℕ) (t : List ℕ) → digits β w t ≤ length t
digits_length β w t = (digits_fit β w t).1

-- each is a digit
pub digits_at : (β w : ℕ) (t : List ℕ) → DigitsTo β (digits β w t) t
digits_at β zero t i h = absurd (omega arith)
digits_at β (suc w) [] i h = absurd (omega arith)
digits_at β (suc w) (b ∷ t) i h = go (ltb (digit b) β) i refl h (digits_at β w t)
  where
    go : (x : Bool) (i : ℕ) → ltb (digit b) β ≡ x → i < (if x then suc (digits β w t) else 0) → DigitsTo β (digits β w t) t
        → digit ((b ∷ t) ! i) < β
    go true zero e k ih = ltb-true (digit b) β e
    go true (suc i) e k ih = ih i (omega arith)
    go false i e k ih = absurd (omega arith)

-- so they are n, if the first n bytes are digits and the next, if it counts, is none
pub digits_is : (β w : ℕ) (t : List ℕ) (n : ℕ) → n ≤ w → n ≤ length t → DigitsTo β n t
    → (n < w → n < length t → β ≤ digit (t ! n)) → digits β w t ≡ n
digits_is β zero t n hw hl all end = omega arith
digits_is β (suc w) [] n hw hl all end = omega arith
digits_is β (suc w) (b ∷ t) zero hw hl all end = rw (le-ltb (digit b) β (end (omega arith) (omega arith)))
digits_is β (suc w) (b ∷ t) (suc n) hw hl all end =
    rw (lt-ltb (digit b) β (all 0 (omega arith)))
    (ap suc (digits_is β w t n (omega arith) (omega arith) (λ i h. all (suc i) (omega arith)) (λ h k. end (omega arith) (omega arith))))

-- a text of digits
pub digits_all : (β : ℕ) (t : List ℕ) → DigitsTo β (length t) t → digits β (length t) t ≡ length t
digits_all β t all = digits_is β (length t) t (length t) (omega arith) (omega arith) all (λ h. absurd (omega arith))

pub all_digits_of : (β : ℕ) (t : List ℕ) → DigitsTo β (length t) t → all_digits β t ≡ true
unfolding all_digits
all_digits_of β t all = eq-eqb (digits β (length t) t) (length t) (digits_all β t all)

pub all_digits_at : (β : ℕ) (t : List ℕ) → all_digits β t ≡ true → DigitsTo β (length t) t
unfolding all_digits
all_digits_at β t e i h = let k = eqb-true (digits β (length t) t) (length t) e in digits_at β (length t) t i (omega arith)

-- THE NUMBER. One more digit
pub number_suc : (β n v : ℕ) (t : List ℕ) → n < length t → number β (suc n) v t ≡ number β n v t * β + digit (t ! n)
number_suc β n v [] h = absurd (omega arith)
number_suc β zero v (b ∷ t) h = refl
number_suc β (suc n) v (b ∷ t) h = number_suc β n (v * β + digit b) t (omega arith)

-- n digits behind v are below (v + 1) β^n
number_below : (β n v : ℕ) (t : List ℕ) → n ≤ length t → DigitsTo β n t → number β n v t < suc v * β ^ n
number_below β zero v t h all = rw (pow-zero β) (omega arith)
number_below β (suc n) v [] h all = absurd (omega arith)
number_below β (suc n) v (b ∷ t) h all =
    let d = all 0 (omega arith) in
    let s : suc (v * β + digit b) ≤ suc v * β = omega arith in
    lt_of_lt_of_le (number_below β n (v * β + digit b) t (omega arith) (λ i k. all (suc i) (omega arith)))
    (rw (pow-succ' β n, ← mul_assoc (suc v) β (β ^ n)) (mul-le-mul_right (β ^ n) s))

pub number_lt : (β n : ℕ) (t : List ℕ) → n ≤ length t → DigitsTo β n t → number β n 0 t < β ^ n
number_lt β n t h all = lt_of_lt_of_le (number_below β n 0 t h all) (le_of_eq (one-mul (β ^ n)))

pub number_digits_lt : (β w n : ℕ) (t : List ℕ) → n ≤ digits β w t → number β n 0 t < β ^ n
number_digits_lt β w n t h =
    number_lt β n t (let k = digits_length β w t in omega arith) (λ i k. digits_at β w t i (omega arith))
