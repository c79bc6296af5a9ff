-- `calendar::values::day_in` meets its contract. Assumes nothing.
use Rattle.calendar.proofs.Digits.{pair_fits, pairs_fit}
use Rattle.calendar.proofs.TenBytes.{wrong_length, no_hyphen, no_century, no_of_century, no_digits_month, no_digits_day, ten_bytes}
use Rattle.calendar.proofs.values.day_in.Goals as goal

pub returns-then-value-ne10 : goal.returns-then-value-ne10
returns-then-value-ne10 c = search wrong_length

pub returns-then-value : goal.returns-then-value
returns-then-value c = search no_hyphen

pub returns-in_err-century : goal.returns-in_err-century
returns-in_err-century c = rw c.from_residual.ensures (search (no_century, c.in_err-century.was))

pub returns-in_err-of_century : goal.returns-in_err-of_century
returns-in_err-of_century c = rw c.from_residual-in_err-of_century.ensures (search (no_of_century, c.in_err-of_century.was))

pub returns-in_err-month : goal.returns-in_err-month
returns-in_err-month c = rw c.from_residual-in_err-month.ensures (search (no_digits_month, c.in_err-month.was))

pub returns-in_err-day : goal.returns-in_err-day
returns-in_err-day c = rw c.from_residual-in_err-day.ensures (search (no_digits_day, c.in_err-day.was))

pub overflow_mul-century : goal.overflow_mul-century
overflow_mul-century c = search (pair_fits, c.in_ok-century.was)

pub overflow_add-century : goal.overflow_add-century
overflow_add-century c = search (pairs_fit, c.in_ok-century.was, c.in_ok-of_century.was)

pub returns : goal.returns
returns c = search (ten_bytes, c.in_ok-century.was, c.in_ok-of_century.was, c.in_ok-month.was, c.in_ok-day.was)
