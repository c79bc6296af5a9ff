-- [02 T-05] The calendar: a day and its number determine each other, and the order of days is that of their numbers. Assumes nothing.
use mathlib.Core.Logic.{◌⊎◌, inl, inr}
use mathlib.Core.Path.{◌≡◌, refl, ap, sym, ◌∙◌, subst}
use mathlib.Core.Bool.{Bool, true, false, ◌&&◌}
use mathlib.Core.List.{[], ◌∷◌}
use Prim.Native.Nat.{ℕ, suc, ◌+◌, ◌-◌, ◌≤◌, ◌<◌}
use native.Mathlib.Omega.{arith}
use lib.Dec.{eqb, ltb}
use borrow.Author.Tests.{ltb-true, ltb-false}
use Rattle.meaning.specs.declared.CalendarDay.{CalendarDay}
use Rattle.meaning.specs.Bytes.{has, within}
use Rattle.std.specs.Prelude.{if◌then◌else◌}
use Rattle.meaning.specs.Dates.{is_leap, length_by, month_length, year_length, before, day_number, is_day, calendar_day, Fall, seek, month_found, year_found, date_of}
use Rattle.meaning.specs.Dates.{last_day, day_question}
use Rattle.laws.proofs.basics.Tests.{and_left, and_right, within_yes, within_below, within_above, within_bounds}
use Rattle.laws.proofs.dates.Counting.{within_unit, seek_unit, Finds, seek_first}
use Rattle.std.specs.Prelude.{Some, None}

-- a day: its year, month and day, each counted from 1
pub record IsDay (y m d : ℕ) : Type 0 where
  pub year : 0 < y
  pub last_year : y ≤ 9999
  pub month : 0 < m
  pub last_month : m ≤ 12
  pub day : 0 < d
  pub last_day : d ≤ month_length y m

pub is_day_lem : {y m d : ℕ} → is_day y m d ≡ true → IsDay y m d
unfolding is_day
is_day_lem {y} {m} {d} h =
    let both = and_left (within 1 9999 y && within 1 12 m) (within 1 (month_length y m) d) h in
    let years = within_bounds 1 9999 y (and_left (within 1 9999 y) (within 1 12 m) both) in
    let months = within_bounds 1 12 m (and_right (within 1 9999 y) (within 1 12 m) both) in
    let days = within_bounds 1 (month_length y m) d (and_right (within 1 9999 y && within 1 12 m) (within 1 (month_length y m) d) h) in
    record { year = years.0; last_year = years.1; month = months.0; last_month = months.1; day = days.0; last_day = days.1 }

pub day_is : {y m d : ℕ} → IsDay y m d → is_day y m d ≡ true
unfolding is_day
day_is {y} {m} {d} a =
    rw (within_yes 1 9999 y a.year a.last_year, within_yes 1 12 m a.month a.last_month, within_yes 1 (month_length y m) d a.day a.last_day)

-- the months of a year together
pub months_together : (y : ℕ) → before (month_length y) 12 ≡ year_length y
unfolding month_length year_length
months_together y = go (is_leap y)
  where
    go : (x : Bool) → before (length_by x) 12 ≡ (if x then 366 else 365)
    go true = refl
    go false = refl

-- a day's place in its year
in_year : (y m d : ℕ) → IsDay y m d → before (month_length y) (m - 1) + d ≤ year_length y
in_year y m d a =
    subst (λ (n : ℕ). before (month_length y) (m - 1) + d ≤ n) (months_together y)
    (within_unit (month_length y) m 12 d a.month a.last_month a.last_day)

-- a day is among the days of the years up to its own, and up to any later one
in_years : (y m d k : ℕ) → IsDay y m d → y ≤ k → day_number y m d ≤ before year_length k
unfolding day_number
in_years y m d k a l = omega (arith, within_unit year_length y k (before (month_length y) (m - 1) + d) a.year l (in_year y m d a))

-- THE WAY BACK. "the number gives the date back"
pub number_back : (y m d : ℕ) → is_day y m d ≡ true → date_of (day_number y m d) ≡ calendar_day y m d
unfolding date_of day_number calendar_day
number_back y m d h =
    let a = is_day_lem h in
    let r = before (month_length y) (m - 1) + d in
    ap (year_found (day_number y m d))
    (seek_unit year_length 9998 y (day_number y m d) r a.year a.last_year (omega arith) (omega arith) (in_year y m d a))
    ∙ ap (month_found (day_number y m d) y) (seek_unit (month_length y) 11 m r d a.month a.last_month refl a.day a.last_day)

-- THE ENDS. "Day 1 is 0001-01-01", "9999-12-31 is 3652059"
pub first_day : day_number 1 1 1 ≡ 1
unfolding day_number
first_day = refl

years_together : before year_length 9999 ≡ last_day
unfolding year_length is_leap
years_together = refl

pub last_day_lem : day_number 9999 12 31 ≡ last_day
unfolding day_number month_length year_length is_leap
last_day_lem = refl

pub number_within : (y m d : ℕ) → is_day y m d ≡ true → (1 ≤ day_number y m d) × (day_number y m d ≤ last_day)
unfolding day_number
number_within y m d h =
    let a = is_day_lem h in
    (omega arith, subst (λ (n : ℕ). day_number y m d ≤ n) years_together (in_years y m d 9999 a a.last_year))

-- THE ORDER: by year, then month, then day
pub data Earlier (y m d y' m' d' : ℕ) : Type 0 where
  by_year : y < y' → Earlier y m d y' m' d'
  by_month : y ≡ y' → m < m' → Earlier y m d y' m' d'
  by_day : y ≡ y' → m ≡ m' → d < d' → Earlier y m d y' m' d'

-- "later dates have larger numbers"
pub later_larger : (y m d y' m' d' : ℕ) → is_day y m d ≡ true → is_day y' m' d' ≡ true → Earlier y m d y' m' d'
    → day_number y m d < day_number y' m' d'
unfolding day_number
later_larger y m d y' m' d' h h' (by_year l) =
    let b = is_day_lem h' in
    omega (arith, in_years y m d (y' - 1) (is_day_lem h) (omega arith))
later_larger y m d y' m' d' h h' (by_month e l) =
    let a = is_day_lem h in
    let b = is_day_lem h' in
    rw (sym e) (omega (arith, within_unit (month_length y) m (m' - 1) d a.month (omega arith) a.last_day))
later_larger y m d y' m' d' h h' (by_day e f l) = rw (sym e, sym f) (omega arith)

-- of two numbers, and of two days, one is first or they are the same
compared : (a b : ℕ) → (a < b) ⊎ ((a ≡ b) ⊎ (b < a))
compared a b = go (ltb a b) (ltb b a) refl refl
  where
    go : (x z : Bool) → ltb a b ≡ x → ltb b a ≡ z → (a < b) ⊎ ((a ≡ b) ⊎ (b < a))
    go true z p q = inl (ltb-true a b p)
    go false true p q = inr (inr (ltb-true b a q))
    go false false p q = inr (inl (omega (arith, ltb-false a b p, ltb-false b a q)))

abbrev Compared : (y m d y' m' d' : ℕ) → Type 0
Compared y m d y' m' d' = Earlier y m d y' m' d' ⊎ (((y ≡ y') × (m ≡ m') × (d ≡ d')) ⊎ Earlier y' m' d' y m d)

days_compared : (y m d y' m' d' : ℕ) → Compared y m d y' m' d'
days_compared y m d y' m' d' = go (compared y y') (compared m m') (compared d d')
  where
    go : (y < y') ⊎ ((y ≡ y') ⊎ (y' < y)) → (m < m') ⊎ ((m ≡ m') ⊎ (m' < m)) → (d < d') ⊎ ((d ≡ d') ⊎ (d' < d)) → Compared y m d y' m' d'
    go (inl p) q r = inl (by_year p)
    go (inr (inr p)) q r = inr (inr (by_year p))
    go (inr (inl p)) (inl q) r = inl (by_month p q)
    go (inr (inl p)) (inr (inr q)) r = inr (inr (by_month (sym p) q))
    go (inr (inl p)) (inr (inl q)) (inl r) = inl (by_day p q r)
    go (inr (inl p)) (inr (inl q)) (inr (inr r)) = inr (inr (by_day (sym p) (sym q) r))
    go (inr (inl p)) (inr (inl q)) (inr (inl r)) = inr (inl (p, q, r))

-- larger numbers are those of later dates
pub larger_later : (y m d y' m' d' : ℕ) → is_day y m d ≡ true → is_day y' m' d' ≡ true → day_number y m d < day_number y' m' d'
    → Earlier y m d y' m' d'
larger_later y m d y' m' d' h h' l = go (days_compared y m d y' m' d')
  where
    go : Compared y m d y' m' d' → Earlier y m d y' m' d'
    go (inl p) = p
    go (inr (inl p)) = let same : day_number y m d ≡ day_number y' m' d' = rw (p.0, p.1, p.2) in absurd (omega arith)
    go (inr (inr p)) = absurd (omega (arith, later_larger y' m' d' y m d h' h p))

-- two days with one number are the same
pub same_number : (y m d y' m' d' : ℕ) → is_day y m d ≡ true → is_day y' m' d' ≡ true → day_number y m d ≡ day_number y' m' d'
    → (y ≡ y') × (m ≡ m') × (d ≡ d')
same_number y m d y' m' d' h h' e = go (days_compared y m d y' m' d')
  where
    go : Compared y m d y' m' d' → (y ≡ y') × (m ≡ m') × (d ≡ d')
    go (inl p) = absurd (omega (arith, later_larger y m d y' m' d' h h' p))
    go (inr (inl p)) = p
    go (inr (inr p)) = absurd (omega (arith, later_larger y' m' d' y m d h' h p))

-- EVERY NUMBER'S DAY: that c is a day, that its number is n, and that it says so
abbrev Numbers : ℕ → CalendarDay → Type 0
Numbers n c = (is_day c.year c.month c.day ≡ true) × (day_number c.year c.month c.day ≡ n) × (c.number ≡ n)

month_numbers : (n : ℕ) (w v : Fall) → Finds year_length 9998 0 n w → Finds (month_length w.unit) 11 0 w.rest v → Numbers n (month_found n w.unit v)
unfolding day_number
month_numbers n w v a b = (
  day_is (record { year = a.least; last_year = a.most; month = b.least; last_month = b.most; day = b.some; last_day = b.inside }),
  omega arith,
  refl,
)

year_numbers : (n : ℕ) (w : Fall) → Finds year_length 9998 0 n w → Numbers n (year_found n w)
year_numbers n w a =
    month_numbers n w (seek (month_length w.unit) 11 1 w.rest) a
    (seek_first (month_length w.unit) 11 w.rest a.some (subst (λ (k : ℕ). w.rest ≤ k) (sym (months_together w.unit)) a.inside))

pub back_number : (n : ℕ) → 1 ≤ n → n ≤ last_day → (is_day (date_of n).year (date_of n).month (date_of n).day ≡ true)
    × (day_number (date_of n).year (date_of n).month (date_of n).day ≡ n) × ((date_of n).number ≡ n)
unfolding date_of
back_number n a b =
    year_numbers n (seek year_length 9998 1 n) (seek_first year_length 9998 n a (subst (λ (k : ℕ). n ≤ k) (sym years_together) b))

-- THE QUESTION. Every number from 1 to 3652059 is a day's, and no other
pub day_found : (n : ℕ) → 1 ≤ n → n ≤ last_day → day_question n ≡ Some (date_of n)
unfolding day_question
day_found n a b = rw (within_yes 1 last_day n a b)

pub day_outside : (n : ℕ) → (n ≡ 0) ⊎ (last_day < n) → day_question n ≡ None
unfolding day_question
day_outside n (inl e) = rw (within_below 1 last_day n (omega arith))
day_outside n (inr l) = rw (within_above 1 last_day n l)

pub day_back : (y m d : ℕ) → is_day y m d ≡ true → day_question (day_number y m d) ≡ Some (calendar_day y m d)
day_back y m d h =
    let bounds = number_within y m d h in
    day_found (day_number y m d) bounds.0 bounds.1 ∙ ap Some (number_back y m d h)

-- the day told is the calendar's, and has that number
abbrev Told : ℕ → CalendarDay → Type 0
Told n c = (is_day c.year c.month c.day ≡ true) × (c ≡ calendar_day c.year c.month c.day) × (c.number ≡ n)

told : (n : ℕ) (c : CalendarDay) → date_of n ≡ c → Numbers n c → Told n c
told n c same h = (h.0, sym same ∙ ap date_of (sym h.1) ∙ number_back c.year c.month c.day h.0, h.2)

pub day_only : (n : ℕ) (c : CalendarDay) → day_question n ≡ Some c
    → (is_day c.year c.month c.day ≡ true) × (c ≡ calendar_day c.year c.month c.day) × (c.number ≡ n)
unfolding day_question
day_only n c e = go (within 1 last_day n) refl e
  where
    go : (x : Bool) → within 1 last_day n ≡ x → (if x then Some (date_of n) else None) ≡ Some c → Told n c
    go true t u =
        let bounds = within_bounds 1 last_day n t in
        let same : date_of n ≡ c = cc in
        told n c same (subst (Numbers n) same (back_number n bounds.0 bounds.1))
    go false t u = let z : ◌≡◌ {A = ℕ} 0 1 = cc in absurd (omega arith)

-- ONE BY ONE. The next day in a month, the first of the next month, and the first of the next year: each has the next number
pub next_day : (y m d : ℕ) → is_day y m d ≡ true → d < month_length y m → (is_day y m (suc d) ≡ true) × (day_number y m (suc d) ≡ suc (day_number y m d))
unfolding day_number
next_day y m d h l =
    let a = is_day_lem h in (
      day_is (record { year = a.year; last_year = a.last_year; month = a.month; last_month = a.last_month; day = omega arith; last_day = l }),
      omega arith,
    )

-- no month is empty, so each has a 1st
month_some : (y m : ℕ) → 0 < month_length y m
unfolding month_length
month_some y m = go (eqb m 2) (is_leap y) (has m (4 ∷ 6 ∷ 9 ∷ 11 ∷ []))
  where
    go : (x z w : Bool) → 0 < (if x then (if z then 29 else 28) else if w then 30 else 31)
    go true true w = omega arith
    go true false w = omega arith
    go false z true = omega arith
    go false z false = omega arith

pub next_month : (y m : ℕ) → is_day y m (month_length y m) ≡ true → m < 12
    → (is_day y (suc m) 1 ≡ true) × (day_number y (suc m) 1 ≡ suc (day_number y m (month_length y m)))
unfolding day_number
next_month y m h l =
    let a = is_day_lem h in
    let u : suc m - 1 ≡ suc (m - 1) = omega arith in
    let v : suc (m - 1) ≡ m = omega arith in (
      day_is
          (record { year = a.year; last_year = a.last_year; month = omega arith; last_month = l; day = omega arith; last_day = month_some y (suc m) }),
      omega (arith, ap (before (month_length y)) u, ap (month_length y) v),
    )

december : (y : ℕ) → month_length y 12 ≡ 31
unfolding month_length
december y = refl

pub next_year : (y : ℕ) → is_day y 12 31 ≡ true → y < 9999 → (is_day (suc y) 1 1 ≡ true) × (day_number (suc y) 1 1 ≡ suc (day_number y 12 31))
unfolding day_number
next_year y h l =
    let a = is_day_lem h in
    let u : suc y - 1 ≡ suc (y - 1) = omega arith in
    let v : suc (y - 1) ≡ y = omega arith in (
      day_is (record { year = omega arith; last_year = l; month = omega arith; last_month = omega arith; day = omega arith; last_day = month_some (suc y) 1 }),
      omega (arith, ap (before year_length) u, ap year_length v, months_together y, december y),
    )
