-- The length of a month, and the days of a year before it: the twelfths of 367 m - 362, less what February lacks of 30 days. Assumes nothing.
use mathlib.Core.Path.{◌≡◌, refl, subst}
use mathlib.Core.Bool.{Bool, true, false, ◌&&◌, ◌||◌}
use Prim.Native.Nat.{ℕ, zero, suc, ◌+◌, ◌-◌, ◌*◌, ◌/◌, ◌≤◌}
use native.Mathlib.Omega.{arith}
use borrow.Author.Tests.{eqb-true, ne_eqb, lt-ltb, le-ltb, leb-true, leb-false, ltb-true, ltb-false}
use lib.Dec.{eqb, ltb, leb}
use mir.Val.{bool_byte}
use Rattle.std.specs.Prelude.{if◌then◌else◌}
use Rattle.meaning.specs.Dates.{is_leap, length_by, month_length, before}
use Rattle.laws.proofs.basics.Tests.{and_left, and_right}
use Rattle.calendar.specs.Falls.{lack_by}

-- what February lacks of 30 days
abbrev pub lack : Bool → ℕ
lack leap = lack_by true leap

pub lack_most : (x leap : Bool) → lack_by x leap ≤ 2
lack_most true true = omega arith
lack_most true false = omega arith
lack_most false leap = omega arith

pub lack_least : (leap : Bool) → 1 ≤ lack leap
lack_least true = omega arith
lack_least false = omega arith

one_most : (x : Bool) → bool_byte x ≤ 1
one_most true = omega arith
one_most false = omega arith

-- THE LENGTH of a month, as the code counts it: nothing goes below 0
module _ (y m : ℕ) where
  pub lack_off : (l : Bool) (b : ℕ) → b ≡ lack_by true l → b ≤ 30
  lack_off l b f = omega (arith, lack_most true l)

  pub february_counted : (l : Bool) (b : ℕ) → m ≡ 2 → l ≡ is_leap y → b ≡ lack_by true l → 30 - b ≡ month_length y m
  unfolding month_length
  february_counted l b e k f = rw (e, ← k, f) (go l)
    where
      go : (x : Bool) → 30 - lack_by true x ≡ (if x then 29 else 28)
      go true = refl
      go false = refl

  pub one_off : (x : Bool) (a : ℕ) → a ≡ bool_byte x → a ≤ 31
  one_off x a e = omega (arith, one_most x)

  pub length_counted : (a : ℕ) → (m ≡ 2 → ⊥) → a ≡ bool_byte (eqb m 4 || eqb m 6 || eqb m 9 || eqb m 11) → 31 - a ≡ month_length y m
  unfolding month_length
  length_counted a n e = rw (ne_eqb m 2 n, e) (go (eqb m 4) (eqb m 6) (eqb m 9) (eqb m 11))
    where
      go : (x z u v : Bool) → 31 - bool_byte (x || z || u || v) ≡ (if x || (z || (u || (v || false))) then 30 else 31)
      go true z u v = refl
      go false true u v = refl
      go false false true v = refl
      go false false false true = refl
      go false false false false = refl

-- BEFORE n MONTHS: thirteen numbers and two kinds of year, by computation
abbrev pub late : Bool → ℕ → ℕ
late leap n = if ltb n 2 then 0 else lack leap

abbrev up_to : (ℕ → Bool) → ℕ → Bool
up_to p zero = p zero
up_to p (suc n) = up_to p n && p (suc n)

up_to_at : (p : ℕ → Bool) (n i : ℕ) → up_to p n ≡ true → i ≤ n → p i ≡ true
up_to_at p zero i e h = let z : 0 ≡ i = omega arith in subst (λ (j : ℕ). p j ≡ true) z e
up_to_at p (suc n) i e h = go (leb i n) refl (up_to_at p n i (and_left (up_to p n) (p (suc n)) e))
  where
    go : (x : Bool) → leb i n ≡ x → (i ≤ n → p i ≡ true) → p i ≡ true
    go true k on = on (leb-true i n k)
    go false k on =
        let z : suc n ≡ i = omega (arith, leb-false i n k) in
        subst (λ (j : ℕ). p j ≡ true) z (and_right (up_to p n) (p (suc n)) e)

abbrev even : Bool → ℕ → Bool
even leap n = eqb (before (length_by leap) n + late leap n) ((367 * n + 5) / 12)

all_even : (leap : Bool) → up_to (even leap) 12 ≡ true
all_even true = refl
all_even false = refl

pub months_closed : (leap : Bool) (n : ℕ) → n ≤ 12 → before (length_by leap) n + late leap n ≡ (367 * n + 5) / 12
months_closed leap n h = eqb-true (before (length_by leap) n + late leap n) ((367 * n + 5) / 12) (up_to_at (even leap) 12 n (all_even leap) h)

-- as `days_before_month` counts them
module _ (leap : Bool) (m : ℕ) (f : 1 ≤ m) (l : m ≤ 12) where
  closed : before (length_by leap) (m - 1) + late leap (m - 1) ≡ (367 * m - 362) / 12
  closed = let z : 367 * (m - 1) + 5 ≡ 367 * m - 362 = omega arith in rw z at (months_closed leap (m - 1) (omega arith))

  module _ (r : ℕ) (e : r ≡ lack_by (ltb 2 m) leap) where
    lacked : before (length_by leap) (m - 1) + r ≡ (367 * m - 362) / 12
    lacked = go (ltb 2 m) refl
      where
        go : (x : Bool) → ltb 2 m ≡ x → before (length_by leap) (m - 1) + r ≡ (367 * m - 362) / 12
        go true t =
            let k = rw t at e in
            rw k (rw (le-ltb (m - 1) 2 (omega (arith, ltb-true 2 m t))) at closed)
        go false t =
            let k = rw t at e in
            rw k (rw (lt-ltb (m - 1) 2 (omega (arith, ltb-false 2 m t))) at closed)

    pub months_least : r ≤ (367 * m - 362) / 12
    months_least = omega (arith, lacked)

    pub months_counted : (367 * m - 362) / 12 - r ≡ before (length_by leap) (m - 1)
    months_counted = omega (arith, lacked)
