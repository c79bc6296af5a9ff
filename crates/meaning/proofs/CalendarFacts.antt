-- What the calendar says and no question shows: which years are leap, how long years and months are, which days there are, what the years before one make
-- together, and the ten bytes of a day. Assumes nothing.
use mathlib.Core.Bool.{Bool, true, false, ◌&&◌}
use mathlib.Core.List.{List, [], ◌∷◌, map}
use Prim.Native.Nat.{ℕ}
use Prim.Native.String.{String}
use lib.Dec.{T, eqb}
use Rattle.meaning.specs.Bytes.{ascii, same, within, all_digits, digit}
use Rattle.meaning.specs.Forms.{figure}
use Rattle.meaning.specs.Dates.{is_leap, month_length, year_length, before, day_number, is_day, is_ten_bytes, is_date, spelled_day}
use Rattle.meaning.proofs.Rows.{equal}

pub data Fact : Type 0 where
  -- a year is leap, or it is not
  leap : ℕ → Bool → Fact
  -- the lengths of a year's twelve months, and of the year
  months : ℕ → List ℕ → Fact
  lasts : ℕ → ℕ → Fact
  -- how many days the first years make together
  days_of : ℕ → ℕ → Fact
  -- a year, a month and a day are a day of the calendar, or they are not
  day : ℕ → ℕ → ℕ → Bool → Fact
  -- the ten bytes of a day, which are such bytes, and a date if it is a day
  spelt : ℕ → ℕ → ℕ → String → Bool → Fact

abbrev pub holds : Fact → Bool
holds (leap y x) = equal (is_leap y) x
holds (months y ls) = same (map (month_length y) (1 ∷ 2 ∷ 3 ∷ 4 ∷ 5 ∷ 6 ∷ 7 ∷ 8 ∷ 9 ∷ 10 ∷ 11 ∷ 12 ∷ [])) ls
holds (lasts y n) = eqb (year_length y) n
holds (days_of y n) = eqb (before year_length y) n
holds (day y m d x) = equal (is_day y m d) x
holds (spelt y m d t x) = same (spelled_day y m d) (ascii t) && is_ten_bytes (ascii t) && equal (is_date (ascii t)) x

abbrev pub all_hold : List Fact → Bool
all_hold [] = true
all_hold (f ∷ fs) = holds f && all_hold fs

-- [02 T-05] "Gregorian calendar throughout": every fourth year, of the hundredth ones every fourth
abbrev pub years : List Fact
years =
    leap 1 false ∷ leap 3 false ∷ leap 4 true ∷ leap 5 false ∷ leap 100 false ∷ leap 104 true ∷ leap 200 false ∷ leap 300 false ∷ leap 400 true ∷
    leap 1500 false ∷ leap 1582 false ∷ leap 1600 true ∷ leap 1900 false ∷ leap 1996 true ∷ leap 2000 true ∷ leap 2023 false ∷ leap 2024 true ∷ leap 2100 false ∷ leap 9996 true ∷
    leap 9999 false ∷ lasts 1 365 ∷ lasts 4 366 ∷ lasts 100 365 ∷ lasts 400 366 ∷ days_of 0 0 ∷ days_of 1 365 ∷ days_of 3 1095 ∷ days_of 4 1461 ∷
    days_of 100 36524 ∷ days_of 400 146097 ∷ days_of 1969 719162 ∷
    months 2023 (31 ∷ 28 ∷ 31 ∷ 30 ∷ 31 ∷ 30 ∷ 31 ∷ 31 ∷ 30 ∷ 31 ∷ 30 ∷ 31 ∷ []) ∷
    months 2024 (31 ∷ 29 ∷ 31 ∷ 30 ∷ 31 ∷ 30 ∷ 31 ∷ 31 ∷ 30 ∷ 31 ∷ 30 ∷ 31 ∷ []) ∷ []

-- "years 0001 to 9999"
abbrev pub ends : List Fact
ends =
    day 0 1 1 false ∷ day 1 1 1 true ∷ day 9999 12 31 true ∷ day 10000 1 1 false ∷ day 2024 0 1 false ∷ day 2024 13 1 false ∷ day 2024 1 0 false ∷
    day 2024 1 31 true ∷ day 2024 1 32 false ∷ day 2024 2 29 true ∷ day 2024 2 30 false ∷ day 2023 2 28 true ∷ day 2023 2 29 false ∷ day 2024 4 30 true ∷
    day 2024 4 31 false ∷ []

-- "exactly ten bytes, yyyy-mm-dd"
abbrev pub spellings : List Fact
spellings =
    spelt 1 1 1 "0001-01-01" true ∷ spelt 45 6 7 "0045-06-07" true ∷ spelt 987 10 20 "0987-10-20" true ∷ spelt 2024 2 29 "2024-02-29" true ∷
    spelt 2023 2 29 "2023-02-29" false ∷ spelt 9999 12 31 "9999-12-31" true ∷ spelt 0 12 31 "0000-12-31" false ∷ spelt 2024 0 99 "2024-00-99" false ∷ []

pub facts_hold : T (all_hold years && all_hold ends && all_hold spellings)
unfolding within digit all_digits figure is_leap month_length year_length day_number is_day is_ten_bytes is_date spelled_day
facts_hold = tt
