-- The day found for a number is the one that the definition gives back: it is a day, and has this number. Assumes nothing.
use mathlib.Core.Path.{◌≡◌, ap, sym, ◌∙◌}
use mathlib.Core.Bool.{Bool, true, false}
use Prim.Native.Nat.{ℕ, ◌+◌, ◌-◌}
use native.Mathlib.Omega.{arith}
use Rattle.meaning.specs.Dates.{is_leap, length_by, before, day_number, calendar_day, date_of, day_question, last_day}
use Rattle.laws.proofs.basics.Tests.{within_yes}
use Rattle.laws.proofs.dates.Calendar.{IsDay, day_is, number_back}
use Rattle.calendar.specs.Falls.{InYear, InMonth}
use Rattle.calendar.proofs.Days.{is_out, out_within, in_bounds, length_of_lem, months_of}
use Rattle.std.specs.Prelude.{Some, None}

-- no day's number
pub no_number : (n : ℕ) → is_out 3652059 n ≡ true → None ≡ day_question n
unfolding day_question
no_number n e = rw (out_within 3652059 n e)

module _ (n y q m b : ℕ) (leap : Bool) (e : leap ≡ is_leap y) (o : is_out 3652059 n ≡ false) (iy : InYear (n - 1) y q) (im : InMonth leap q m)
    (h : b ≡ before (length_by leap) (m - 1)) where
  found_day : IsDay y m (q - b + 1)
  found_day = record {
    year = iy.first;
    last_year = iy.last;
    month = im.first;
    last_month = im.last;
    day = omega arith;
    last_day = rw (length_of_lem y m, ← e) (omega (arith, h, im.inside, im.passed));
  }

  found_number_lem : day_number y m (q - b + 1) ≡ n
  unfolding day_number
  found_number_lem =
      rw (months_of y (m - 1), ← e, ← h) (omega (arith, h, im.passed, iy.counted, (in_bounds 3652059 n o).0))

  pub date_by : Some (record { year = y; month = m; day = q - b + 1; number = n }) ≡ day_question n
  unfolding day_question calendar_day
  date_by =
      let w = in_bounds 3652059 n o in
      let back = number_back y m (q - b + 1) (day_is found_day) in
      rw (within_yes 1 last_day n w.0 w.1)
      (ap Some (ap (λ (k : ℕ). record { year = y; month = m; day = q - b + 1; number = k }) (sym found_number_lem) ∙ sym back ∙ ap date_of found_number_lem))
