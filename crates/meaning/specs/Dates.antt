-- [02 T-05] Dates as year, month, day and day number: the calendar, the ten bytes of a day, and the question. Assumes nothing.
use Rattle.std.specs.Prelude.{Bool, true, false, ◌&&◌, ◌||◌, not, List, [], ◌∷◌, ◌++◌, ℕ, zero, suc, ◌+◌, ◌-◌, ◌%◌, eqb, leb, length, Result, Ok, Err}
use Prim.Native.Char.{code}
use Rattle.meaning.specs.declared.LiteralKind.{LiteralKind}
use Rattle.meaning.specs.declared.LiteralExpected.TheVariants as Expected
use Rattle.meaning.specs.declared.Span.{Span}
use Rattle.meaning.specs.declared.Literal.{Literal}
use Rattle.meaning.specs.declared.Refusal.TheVariants.{InvalidString, InvalidDate}
use Rattle.meaning.specs.declared.CalendarDay.{CalendarDay}
use Rattle.meaning.specs.Bytes.{◌!◌, part, has, within, number, all_digits}
use Rattle.std.specs.Prelude.{if◌then◌else◌}
use Rattle.meaning.specs.Cutting.{off}
use Rattle.meaning.specs.Reading.{Value, means, fails, value_of}
use Rattle.meaning.specs.Kinds.{temporal}
use Rattle.meaning.specs.Answers.{kind_code}
use Rattle.meaning.specs.Questions.{Tested, passes, barred, tested}
use Rattle.meaning.specs.Forms.{figures}
use Rattle.meaning.specs.declared.Refusal.{Refusal}
use Rattle.std.specs.Prelude.{Option, Some, None}

-- THE CALENDAR. "Gregorian calendar throughout as in ISO 8601"
unfoldable pub is_leap : ℕ → Bool
is_leap y = eqb (y % 4) 0 && (not (eqb (y % 100) 0) || eqb (y % 400) 0)

abbrev pub length_by : Bool → ℕ → ℕ
length_by leap m = if eqb m 2 then (if leap then 29 else 28) else if has m (4 ∷ 6 ∷ 9 ∷ 11 ∷ []) then 30 else 31

unfoldable pub month_length : ℕ → ℕ → ℕ
month_length y m = length_by (is_leap y) m

unfoldable pub year_length : ℕ → ℕ
year_length y = if is_leap y then 366 else 365

-- f 1, f 2 .. f n together
abbrev pub before : (ℕ → ℕ) → ℕ → ℕ
before f zero = 0
before f (suc n) = before f n + f (suc n)

-- "Day 1 is 0001-01-01": the days of all earlier years, of the year's earlier months, and the day
unfoldable pub day_number : ℕ → ℕ → ℕ → ℕ
day_number y m d = before year_length (y - 1) + before (month_length y) (m - 1) + d

-- "years 0001 to 9999": which years, months and days there are
unfoldable pub is_day : ℕ → ℕ → ℕ → Bool
is_day y m d = within 1 9999 y && within 1 12 m && within 1 (month_length y m) d

unfoldable pub calendar_day : ℕ → ℕ → ℕ → CalendarDay
calendar_day y m d = record { year = y; month = m; day = d; number = day_number y m d }

-- BACK. Into which of f i, f (i + 1) .. the p-th place falls, and which one it is there; at most n are passed
pub record Fall : Type 0 where
  pub unit : ℕ
  pub rest : ℕ

abbrev pub seek : (ℕ → ℕ) → ℕ → ℕ → ℕ → Fall
seek f zero i p = record { unit = i; rest = p }
seek f (suc n) i p = if leb p (f i) then record { unit = i; rest = p } else seek f n (suc i) (p - f i)

-- "the number gives the date back": the year by the lengths of years, then the month by the lengths of its months
abbrev pub month_found : ℕ → ℕ → Fall → CalendarDay
month_found n y w = record { year = y; month = w.unit; day = w.rest; number = n }

abbrev pub year_found : ℕ → Fall → CalendarDay
year_found n w = month_found n w.unit (seek (month_length w.unit) 11 1 w.rest)

unfoldable pub date_of : ℕ → CalendarDay
date_of n = year_found n (seek year_length 9998 1 n)

-- "9999-12-31 is 3652059"
abbrev pub last_day : ℕ
last_day = 3652059

-- a number that is no day's is refused by 14, with nothing: there is no literal
unfoldable pub day_question : ℕ → Option CalendarDay
day_question n = if within 1 last_day n then Some (date_of n) else None

-- THE VALUE. "exactly ten bytes, yyyy-mm-dd": decimal digits, and what they make from a place up to another
abbrev pub digits_in : ℕ → ℕ → List ℕ → ℕ
digits_in f u v = number 10 (u - f) 0 (part f u v)

unfoldable pub is_ten_bytes : List ℕ → Bool
is_ten_bytes v =
    eqb (length v) 10 && all_digits 10 (part 0 4 v) && eqb (v ! 4) (code "-") && all_digits 10 (part 5 7 v) && eqb (v ! 7) (code "-")
    && all_digits 10 (part 8 10 v)

unfoldable pub is_date : List ℕ → Bool
is_date v = is_ten_bytes v && is_day (digits_in 0 4 v) (digits_in 5 7 v) (digits_in 8 10 v)

-- the ten bytes of a day
unfoldable pub spelled_day : ℕ → ℕ → ℕ → List ℕ
spelled_day y m d = figures 10 4 y ++ (code "-" ∷ figures 10 2 m ++ (code "-" ∷ figures 10 2 d))

unfoldable pub day_in : List ℕ → Option CalendarDay
day_in v = if is_date v then Some (calendar_day (digits_in 0 4 v) (digits_in 5 7 v) (digits_in 8 10 v)) else None

-- THE QUESTION. "For Date literals": time, timestamp and interval are refused
abbrev pub is_date_kind : LiteralKind → Bool
is_date_kind k = eqb (kind_code k) 8

-- "then 14 for a value that is no such date": with the literal's span
abbrev pub dated_on : Span → Option CalendarDay → Result CalendarDay Refusal
dated_on s (Some d) = Ok d
dated_on s None = Err (InvalidDate s)

-- "from the decoded value", which is the temporal question's: what it refuses by 6 is refused so, at the same place
abbrev pub dated_as : Span → Value → Result CalendarDay Refusal
dated_as s (means v) = dated_on s (day_in v)
dated_as s (fails p) = Err (InvalidString s p)

abbrev pub dated_by : Span → Tested → Result CalendarDay Refusal
dated_by s (passes t) = dated_as s (value_of t (temporal off t))
dated_by s (barred r) = Err r

unfoldable pub date_question : Literal → List ℕ → Result CalendarDay Refusal
date_question l source = dated_by l.span (tested (is_date_kind l.kind) Expected.Date l source)
