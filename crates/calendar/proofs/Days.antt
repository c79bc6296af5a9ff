-- Years, months and days as the code tests them. Assumes nothing.
use mathlib.Core.Path.{◌≡◌, refl, sym}
use mathlib.Core.Bool.{Bool, true, false, ◌&&◌, ◌||◌, and-false, false≢true}
use mathlib.Core.List.{[], ◌∷◌}
use Prim.Native.Nat.{ℕ, zero, suc, ◌≤◌, ◌<◌}
use native.Mathlib.Omega.{arith}
use borrow.Author.Tests.{eqb-true, eqb-false, ltb-true, ltb-false}
use lib.Dec.{eqb, ltb}
use Rattle.meaning.specs.Bytes.{within, has}
use Rattle.std.specs.Prelude.{if◌then◌else◌}
use Rattle.meaning.specs.Dates.{is_leap, length_by, month_length, year_length, before, day_number, is_day, calendar_day}
use Rattle.laws.proofs.basics.Tests.{within_below, within_above}
use Rattle.laws.proofs.dates.Calendar.{IsDay, day_is}
use Rattle.calendar.specs.Falls.{day_of}
use Rattle.std.specs.Prelude.{Some, None}

-- THE TESTS. Neither 0 nor above: from 1 up to there
abbrev pub is_out : ℕ → ℕ → Bool
is_out hi b = eqb b 0 || ltb hi b

pub out_within : (hi b : ℕ) → is_out hi b ≡ true → within 1 hi b ≡ false
out_within hi b e = go (eqb b 0) (ltb hi b) refl refl e
  where
    go : (x y : Bool) → eqb b 0 ≡ x → ltb hi b ≡ y → (x || y) ≡ true → within 1 hi b ≡ false
    go true y p q e = within_below 1 hi b (omega (arith, eqb-true b 0 p))
    go false true p q e = within_above 1 hi b (ltb-true hi b q)
    go false false p q e = absurd (false≢true e)

pub in_bounds : (hi b : ℕ) → is_out hi b ≡ false → (1 ≤ b) × (b ≤ hi)
in_bounds hi b e = go (eqb b 0) (ltb hi b) refl refl e
  where
    go : (x y : Bool) → eqb b 0 ≡ x → ltb hi b ≡ y → (x || y) ≡ false → (1 ≤ b) × (b ≤ hi)
    go true y p q e = absurd (false≢true (sym e))
    go false true p q e = absurd (false≢true (sym e))
    go false false p q e = (some b p, ltb-false hi b q)
      where
        some : (n : ℕ) → eqb n 0 ≡ false → 1 ≤ n
        some zero k = absurd (eqb-false 0 0 k refl)
        some (suc n) k = omega arith

-- NO DAY: by the year, the month, the day
pub no_year : (y m d : ℕ) → is_out 9999 y ≡ true → None ≡ day_of y m d
unfolding day_of is_day
no_year y m d e = rw (out_within 9999 y e)

pub no_month : (y m d : ℕ) → is_out 12 m ≡ true → None ≡ day_of y m d
unfolding day_of is_day
no_month y m d e = rw (out_within 12 m e, and-false (within 1 9999 y))

pub no_day_lem : (y m d : ℕ) → within 1 (month_length y m) d ≡ false → None ≡ day_of y m d
unfolding day_of is_day
no_day_lem y m d e = rw (e, and-false (within 1 9999 y && within 1 12 m))

-- THE MONTHS of a year by its kind
pub length_of_lem : (y m : ℕ) → month_length y m ≡ length_by (is_leap y) m
unfolding month_length
length_of_lem y m = refl

pub months_of : (y n : ℕ) → before (month_length y) n ≡ before (length_by (is_leap y)) n
months_of y zero = refl
months_of y (suc n) = rw (months_of y n, length_of_lem y (suc n))

pub year_of : (y q : ℕ) (leap : Bool) → leap ≡ is_leap y → q < year_length y → q < (if leap then 366 else 365)
unfolding year_length
year_of y q leap e h = rw e h

pub length_most : (leap : Bool) (m : ℕ) → length_by leap m ≤ 31
length_most leap m = go (eqb m 2) (has m (4 ∷ 6 ∷ 9 ∷ 11 ∷ [])) leap
  where
    go : (x y z : Bool) → (if x then (if z then 29 else 28) else if y then 30 else 31) ≤ 31
    go true y true = omega arith
    go true y false = omega arith
    go false true z = omega arith
    go false false z = omega arith

-- A DAY as the code tests it, with its number
module _ (y m d : ℕ) where
  pub no_day_by : (n : ℕ) → n ≡ month_length y m → is_out n d ≡ true → None ≡ day_of y m d
  no_day_by n k o = no_day_lem y m d (rw (← k) (out_within n d o))

  module _ (i : is_out 9999 y ≡ false) (j : is_out 12 m ≡ false) (n : ℕ) (k : n ≡ month_length y m) (o : is_out n d ≡ false) where
    pub is_day_by : IsDay y m d
    is_day_by =
        let a = in_bounds 9999 y i in
        let b = in_bounds 12 m j in
        let c = in_bounds n d o in
        record { year = a.0; last_year = a.1; month = b.0; last_month = b.1; day = c.0; last_day = rw (← k) c.1 }

    pub day_by : (u : ℕ) → u ≡ day_number y m d → Some (record { year = y; month = m; day = d; number = u }) ≡ day_of y m d
    unfolding day_of calendar_day
    day_by u p = rw (day_is is_day_by, p)
