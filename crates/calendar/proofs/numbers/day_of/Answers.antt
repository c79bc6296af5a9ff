-- `calendar::numbers::day_of` meets its contract. What the tests leave is a day. Assumes nothing.
use Rattle.calendar.proofs.Days.{no_year, no_month, no_day_by, is_day_by, day_by}
use Rattle.calendar.proofs.numbers.day_of.Goals as goal

pub returns-then-year : goal.returns-then-year
returns-then-year c = search no_year

pub returns-then-month : goal.returns-then-month
returns-then-month c = search no_month

pub returns-then-day-month_length : goal.returns-then-day-month_length
returns-then-day-month_length c = search no_day_by

pub day_number-requires : goal.day_number-requires
day_number-requires c = is_day_by c.args.year c.args.month c.args.day c.if-year.false c.if-month.false
    c.month_length.result c.month_length.ensures c.if-day-month_length.false

pub returns : goal.returns
returns c = day_by c.args.year c.args.month c.args.day c.if-year.false c.if-month.false
    c.month_length.result c.month_length.ensures c.if-day-month_length.false c.day_number.result c.day_number.ensures
