-- The month of a day, of which p days of the year are past: what is before a month, turned round. Assumes nothing.
use mathlib.Core.Path.{◌≡◌, refl, ap, ◌∙◌, subst}
use mathlib.Core.Bool.{Bool, true, false}
use Prim.Native.Nat.{ℕ, suc, ◌+◌, ◌-◌, ◌*◌, ◌/◌, ◌≤◌, ◌<◌}
use native.Mathlib.Omega.{arith}
use borrow.Author.Tests.{lt-ltb, le-ltb, leb-true, leb-false, ltb-true, ltb-false}
use lib.Dec.{ltb, leb}
use mir.Syntax.{w32}
use mir.Val.{Fits}
use Rattle.std.specs.Prelude.{if◌then◌else◌}
use Rattle.meaning.specs.Dates.{length_by, before}
use Rattle.calendar.specs.Falls.{lack_by, InMonth}
use Rattle.calendar.proofs.Months.{lack, lack_most, lack_least, months_closed}

pub year_days : (leap : Bool) → (if leap then 366 else 365) + lack leap ≡ 367
year_days true = refl
year_days false = refl

module _ (x leap : Bool) (p r : ℕ) (h : p < (if leap then 366 else 365)) (e : r ≡ lack_by x leap) where
  below : p + r < 368
  below = omega (arith, year_days leap, lack_most x leap, lack_least leap)

  pub day_fits : Fits w32 (p + r)
  day_fits = record { fits = omega (arith, below) }

  pub day_scaled : Fits w32 (12 * (p + r))
  day_scaled = record { fits = omega (arith, below) }

  pub day_summed : Fits w32 (12 * (p + r) + 373)
  day_summed = record { fits = omega (arith, below) }

module _ (leap : Bool) (p m : ℕ) (h : p < (if leap then 366 else 365)) where
  -- by what is before the month and before the next one, each with what February lacks, if it is past
  falls : (f : 1 ≤ m) (l : m ≤ 12) → before (length_by leap) (m - 1) ≤ p → p < before (length_by leap) (suc (m - 1)) → InMonth leap p m
  falls f l a b =
      let z : suc (m - 1) ≡ m = omega arith in
      record { first = f; last = l; passed = a; inside = subst (λ (k : ℕ). p < before (length_by leap) (m - 1) + length_by leap k) z b }

  month_early : p + lack leap < 61 → m ≡ (12 * p + 373) / 367 → InMonth leap p m
  month_early k e =
      let f : 1 ≤ m = omega arith in
      let l : m ≤ 2 = omega arith in
      let a = months_closed leap (m - 1) (omega arith) in
      falls f (omega arith) (let g = rw (lt-ltb (m - 1) 2 (omega arith)) at a in omega (arith, g)) (go (ltb m 2) refl)
    where
      go : (x : Bool) → ltb m 2 ≡ x → p < before (length_by leap) (suc (m - 1))
      go true t =
          let z : m ≡ 1 = omega (arith, e, ltb-true m 2 t) in
          let g = months_closed leap 1 (omega arith) in
          rw z (omega (arith, g, e, z))
      go false t =
          let z : m ≡ 2 = omega (arith, e, k, ltb-false m 2 t) in
          let g = months_closed leap 2 (omega arith) in
          rw z (omega (arith, g, e, z))

  month_late : 61 ≤ p + lack leap → m ≡ (12 * (p + lack leap) + 373) / 367 → InMonth leap p m
  month_late k e =
      let days = year_days leap in
      let f : 3 ≤ m = omega arith in
      let l : m ≤ 12 = omega arith in
      let a = rw (le-ltb (m - 1) 2 (omega arith)) at (months_closed leap (m - 1) (omega arith)) in
      let b = rw (le-ltb (suc (m - 1)) 2 (omega arith)) at (months_closed leap (suc (m - 1)) (omega arith)) in
      falls (omega arith) l (omega (arith, a, e)) (omega (arith, b, e))

  -- as the code counts it
  pub month_counted : (a b : ℕ) → a ≡ lack leap → b ≡ lack_by (leb 61 (p + a)) leap → m ≡ (12 * (p + b) + 373) / 367 → InMonth leap p m
  month_counted a b ea eb e = go (leb 61 (p + a)) refl
    where
      go : (x : Bool) → leb 61 (p + a) ≡ x → InMonth leap p m
      go true t =
          let k : b ≡ lack leap = rw t at eb in
          month_late (omega (arith, ea, leb-true 61 (p + a) t)) (e ∙ ap (λ (z : ℕ). (12 * (p + z) + 373) / 367) k)
      go false t =
          let k : p + b ≡ p = omega (arith, rw t at eb) in
          month_early (omega (arith, ea, leb-false 61 (p + a) t)) (e ∙ ap (λ (z : ℕ). (12 * z + 373) / 367) k)
