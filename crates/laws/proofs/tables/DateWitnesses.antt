-- [02 T-05] What the laws of the calendar ask for can be had: closed days and numbers, and what the laws then say of them. Assumes nothing.
use mathlib.Core.Logic.{inl, inr}
use mathlib.Core.Path.{◌≡◌, refl, sym, ◌∙◌}
use mathlib.Core.Bool.{true, false}
use Prim.Native.Nat.{ℕ, suc, ◌<◌}
use native.Mathlib.Omega.{arith}
use Rattle.meaning.specs.declared.CalendarDay.{CalendarDay}
use Rattle.meaning.specs.Bytes.{within}
use Rattle.meaning.specs.Dates.{is_leap, month_length, year_length, day_number, is_day, calendar_day, date_of, day_question}
use Rattle.laws.proofs.dates.Calendar.{Earlier, by_year, by_month, by_day, later_larger, larger_later, same_number, number_back, back_number}
use Rattle.laws.proofs.dates.Calendar.{day_outside, day_back, day_only, next_day, next_month, next_year}
use Rattle.std.specs.Prelude.{Some, None}

-- DAYS AND NO DAYS. 2024 and 2000 are leap years, 2023 and 1900 are none; years end at 9999, months at 12
pub days : (is_day 1 1 1 ≡ true) × (is_day 2000 2 29 ≡ true) × (is_day 2024 2 29 ≡ true) × (is_day 2024 3 1 ≡ true) × (is_day 9999 12 31 ≡ true)
unfolding is_day within month_length is_leap
days = (refl, refl, refl, refl, refl)

pub no_days : (is_day 1900 2 29 ≡ false) × (is_day 2023 2 29 ≡ false) × (is_day 2024 4 31 ≡ false) × (is_day 2024 13 1 ≡ false) × (is_day 2024 1 0 ≡ false)
    × (is_day 0 1 1 ≡ false) × (is_day 10000 1 1 ≡ false)
unfolding is_day within month_length is_leap
no_days = (refl, refl, refl, refl, refl, refl, refl)

-- THEIR NUMBERS
pub numbers : (day_number 1 1 1 ≡ 1) × (day_number 2024 2 29 ≡ 738945) × (day_number 2024 3 1 ≡ 738946) × (day_number 9999 12 31 ≡ 3652059)
unfolding day_number month_length year_length is_leap
numbers = (refl, refl, refl, refl)

-- THE ORDER, by year, by month and by day, both ways
pub earlier : Earlier 2023 12 31 2024 2 29 × Earlier 2024 2 29 2024 3 1 × Earlier 2024 2 28 2024 2 29
earlier = (by_year (omega arith), by_month refl (omega arith), by_day refl refl (omega arith))

pub larger : (day_number 2023 12 31 < day_number 2024 2 29) × (day_number 2024 2 29 < day_number 2024 3 1) × (day_number 2024 2 28 < day_number 2024 2 29)
unfolding is_day within month_length is_leap
larger = (
  later_larger 2023 12 31 2024 2 29 refl refl earlier.0,
  later_larger 2024 2 29 2024 3 1 refl refl earlier.1,
  later_larger 2024 2 28 2024 2 29 refl refl earlier.2,
)

pub later : Earlier 2023 12 31 2024 2 29
unfolding is_day within month_length is_leap
later = larger_later 2023 12 31 2024 2 29 refl refl larger.0

-- no other day has the number 738945
pub same : (y m d : ℕ) → is_day y m d ≡ true → day_number y m d ≡ 738945 → (y ≡ 2024) × (m ≡ 2) × (d ≡ 29)
same y m d h e = same_number y m d 2024 2 29 h days.2 (e ∙ sym numbers.1)

-- THE WAY BACK
abbrev leap_day : CalendarDay
leap_day = record { year = 2024; month = 2; day = 29; number = 738945 }

pub back : date_of 738945 ≡ leap_day
unfolding is_day within calendar_day day_number month_length year_length is_leap
back = number_back 2024 2 29 refl

pub back_again : (is_day (date_of 738945).year (date_of 738945).month (date_of 738945).day ≡ true)
    × (day_number (date_of 738945).year (date_of 738945).month (date_of 738945).day ≡ 738945) × ((date_of 738945).number ≡ 738945)
back_again = back_number 738945 (omega arith) (omega arith)

-- THE QUESTION: a day, both ends, and a number past each
pub told : (day_question 738945 ≡ Some leap_day) × (day_question 1 ≡ Some (record { year = 1; month = 1; day = 1; number = 1 }))
    × (day_question 3652059 ≡ Some (record { year = 9999; month = 12; day = 31; number = 3652059 }))
unfolding is_day within calendar_day day_number month_length year_length is_leap
told = (day_back 2024 2 29 refl, day_back 1 1 1 refl, day_back 9999 12 31 refl)

pub told_no_day : (day_question 0 ≡ None) × (day_question 3652060 ≡ None)
told_no_day = (day_outside 0 (inl refl), day_outside 3652060 (inr (omega arith)))

pub told_only : (is_day 2024 2 29 ≡ true) × (leap_day ≡ calendar_day 2024 2 29) × (◌≡◌ {A = ℕ} 738945 738945)
told_only = day_only 738945 leap_day told.0

-- ONE BY ONE: 28 to 29 February, 29 February to 1 March, 31 December to 1 January
pub next : (day_number 2024 2 29 ≡ suc (day_number 2024 2 28)) × (day_number 2024 3 1 ≡ suc (day_number 2024 2 29))
    × (day_number 2024 1 1 ≡ suc (day_number 2023 12 31))
unfolding is_day within month_length is_leap
next = ((next_day 2024 2 28 refl (omega arith)).1, (next_month 2024 2 refl (omega arith)).1, (next_year 2023 refl (omega arith)).1)
