-- `calendar::numbers::date_of_day` meets its contract. The day found has this number, and a number gives back one day. Assumes nothing.
use native.Mathlib.Omega.{arith}
use Rattle.calendar.proofs.Days.{in_bounds, year_of}
use Rattle.calendar.proofs.Back.{no_number, date_by}
use Rattle.calendar.proofs.numbers.date_of_day.Goals as goal

pub returns-then-number : goal.returns-then-number
returns-then-number c = search no_number

pub overflow_sub-number : goal.overflow_sub-number
overflow_sub-number c = (in_bounds 3652059 c.args.number c.if-number.false).0

pub year_at-at-requires : goal.year_at-at-requires
year_at-at-requires c = omega (arith, in_bounds 3652059 c.args.number c.if-number.false)

pub month_at-month-requires : goal.month_at-month-requires
month_at-month-requires c = search year_of

pub returns : goal.returns
returns c = search date_by
