-- The number of a day as the code counts it: before March from the year's start, from March on back from its end. Assumes nothing.
use mathlib.Core.Path.{◌≡◌, refl, ◌∙◌, subst}
use Prim.Native.Nat.{ℕ, suc, ◌+◌, ◌-◌, ◌*◌, ◌/◌, ◌≤◌, ◌<◌}
use native.Mathlib.Omega.{arith}
use borrow.Author.Tests.{lt-ltb, le-ltb}
use lib.Dec.{ltb}
use Rattle.meaning.specs.Dates.{is_leap, month_length, year_length, before, day_number}
use Rattle.laws.proofs.dates.Calendar.{IsDay}
use Rattle.calendar.specs.Falls.{lack_by}
use Rattle.calendar.proofs.Years.{year_least}
use Rattle.calendar.proofs.Months.{lack, months_counted}
use Rattle.calendar.proofs.MonthFalls.{year_days}
use Rattle.calendar.proofs.Days.{length_of_lem, length_most, months_of}

-- a year, and what its February lacks of 30 days
year_lack : (y : ℕ) → year_length y + lack (is_leap y) ≡ 367
unfolding year_length
year_lack y = year_days (is_leap y)

-- no month is longer than 31 days
pub day_most : (y m d : ℕ) → IsDay y m d → d ≤ 31
day_most y m d a = omega (arith, a.last_day, length_of_lem y m, length_most (is_leap y) m)

module _ (y m d : ℕ) (a : IsDay y m d) (u : ℕ) where
  abbrev even : ℕ
  even = (367 * m - 362) / 12

  pub early_number : u ≡ before year_length (y - 1) → m ≤ 2 → u + even + d ≡ day_number y m d
  unfolding day_number
  early_number e h =
      let t : 0 ≡ lack_by (ltb 2 m) (is_leap y) = rw (le-ltb 2 m h) in
      rw (e, months_of y (m - 1)) (omega (arith, months_counted (is_leap y) m a.month a.last_month 0 t))

  -- FROM MARCH ON
  module _ (e : u ≡ before year_length y) where
    whole : u ≡ before year_length (y - 1) + year_length y
    whole =
        let z : suc (y - 1) ≡ y = omega (arith, a.year) in
        e ∙ subst (λ (k : ℕ). before year_length k ≡ before year_length (y - 1) + year_length k) z refl

    -- a year is behind it at least
    pub years_least : 365 ≤ u
    years_least = omega (arith, whole, year_least y)

    pub late_number : 2 < m → u + even + d - 367 ≡ day_number y m d
    unfolding day_number
    late_number h =
        let t : lack (is_leap y) ≡ lack_by (ltb 2 m) (is_leap y) = rw (lt-ltb 2 m h) in
        let months : even - lack (is_leap y) ≡ before (month_length y) (m - 1) =
        rw (months_of y (m - 1)) (months_counted (is_leap y) m a.month a.last_month (lack (is_leap y)) t) in
        let some : lack (is_leap y) ≤ even = omega (arith, year_lack y, year_least y) in
        omega (arith, whole, year_lack y, months, some)
