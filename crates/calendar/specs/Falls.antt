-- What the functions between a day and its number answer: into which year and month a day falls. Assumes nothing.
use Rattle.meaning.specs.declared.CalendarDay.{CalendarDay}
use Rattle.std.specs.Prelude.{Bool, ◌≡◌, ℕ, ◌+◌, ◌-◌, ◌≤◌, ◌<◌}
use Rattle.std.specs.Prelude.{if◌then◌else◌}
use Rattle.meaning.specs.Dates.{length_by, year_length, before, is_day, calendar_day}
use Rattle.std.specs.Prelude.{Option, Some, None}

-- what February lacks of 30 days, where it counts
abbrev pub lack_by : Bool → Bool → ℕ
lack_by counts leap = if counts then (if leap then 1 else 2) else 0

-- with p days before it, the day falls into year y, of which q days are past
pub record InYear (p y q : ℕ) : Type 0 where
  pub first : 1 ≤ y
  pub last : y ≤ 9999
  pub counted : before year_length (y - 1) + q ≡ p
  pub inside : q < year_length y

-- with p days of the year before it, the day falls into month m
pub record InMonth (leap : Bool) (p m : ℕ) : Type 0 where
  pub first : 1 ≤ m
  pub last : m ≤ 12
  pub passed : before (length_by leap) (m - 1) ≤ p
  pub inside : p < before (length_by leap) (m - 1) + length_by leap m

-- the day of year y, month m and day d, if there is one
unfoldable pub day_of : ℕ → ℕ → ℕ → Option CalendarDay
day_of y m d = if is_day y m d then Some (calendar_day y m d) else None
