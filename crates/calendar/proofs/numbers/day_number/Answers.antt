-- `calendar::numbers::day_number` meets its contract, before March and from March on. Assumes nothing.
use native.Mathlib.Omega.{arith}
use Rattle.calendar.proofs.Counted.{day_most, early_number, years_least, late_number}
use Rattle.calendar.proofs.numbers.day_number.Goals as goal

pub overflow_add-result : goal.overflow_add-result
overflow_add-result c = omega (arith, c.days_of_years.ensures.1, c.requires.last_month)

pub overflow_add-result-then-month-le2 : goal.overflow_add-result-then-month-le2
overflow_add-result-then-month-le2 c = let a = c.args in
    omega (arith, c.days_of_years.ensures.1, c.requires.last_month, day_most a.year a.month a.day c.requires)

pub returns-then-month-le2 : goal.returns-then-month-le2
returns-then-month-le2 c = search early_number

pub overflow_add-result-2 : goal.overflow_add-result-2
overflow_add-result-2 c = omega (arith, c.days_of_years-2.ensures.1, c.requires.last_month)

pub overflow_add-result-3 : goal.overflow_add-result-3
overflow_add-result-3 c = let a = c.args in
    omega (arith, c.days_of_years-2.ensures.1, c.requires.last_month, day_most a.year a.month a.day c.requires)

pub overflow_sub-result : goal.overflow_sub-result
overflow_sub-result c = let a = c.args in
    omega (
      arith,
      years_least a.year a.month a.day c.requires c.days_of_years-2.result c.days_of_years-2.ensures.0,
      c.if-month-le2.false,
    )

pub returns : goal.returns
returns c = search late_number
