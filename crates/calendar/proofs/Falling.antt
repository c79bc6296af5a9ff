-- The year in which a day falls, by two divisions: a century has 36524 days and a quarter, a year of it 365 and a quarter, rounded down. Assumes nothing.
use mathlib.Core.Logic.{◌⊎◌, inl, inr}
use mathlib.Core.Path.{◌≡◌, refl}
use mathlib.Core.Bool.{Bool, true, false}
use Prim.Native.Nat.{ℕ, ◌+◌, ◌-◌, ◌*◌, ◌/◌, ◌%◌, ◌≤◌, ◌<◌}
use native.Mathlib.Nat.{mul-mod_right}
use native.Mathlib.Omega.{arith}
use borrow.Author.Tests.{leb-true, leb-false}
use lib.Arith.{digits_mod}
use lib.Dec.{leb}
use Rattle.meaning.specs.Dates.{is_leap, year_length, before}
use Rattle.calendar.specs.Falls.{InYear}
use Rattle.calendar.proofs.Years.{years_closed, year_least, leap_longer, leap_is}

-- the days before year k of century c, both counted from 0
years_split : (c k : ℕ) → k ≤ 99 → before year_length (100 * c + k) ≡ 146097 * c / 4 + 1461 * k / 4
years_split c k h =
    go (before year_length (100 * c + k)) ((100 * c + k) / 100) ((100 * c + k) / 4) ((100 * c + k) / 400) (c / 4) (k / 4) (146097 * c / 4) (1461 * k / 4)
    (years_closed (100 * c + k)) (omega arith) (omega arith) (omega arith) (omega arith) (omega arith)
  where
    go : (b hundreds fours most c' k' u v : ℕ) → b + hundreds ≡ 365 * (100 * c + k) + fours + most → hundreds ≡ c → fours ≡ 25 * c + k'
        → most ≡ c' → u ≡ 36524 * c + c' → v ≡ 365 * k + k' → b ≡ u + v
    go b hundreds fours most c' k' u v e₁ e₂ e₃ e₄ e₅ e₆ = omega arith

-- the last of four units of so many days and a quarter
last_quarter : (k w : ℕ) → k ≡ 4 * w + 3 → k % 4 ≡ 3
last_quarter k w e = omega (arith, e)

last_year : (k s : ℕ) → 1461 * k ≡ 4 * s + 3 → k % 4 ≡ 3
last_year k s e = let h : 365 * k ≤ s = omega (arith, e) in last_quarter k (s - 365 * k) (omega (arith, e, h))

last_century : (c s : ℕ) → 146097 * c ≡ 4 * s + 3 → c % 4 ≡ 3
last_century c s e = let h : 36524 * c ≤ s = omega (arith, e) in last_quarter c (s - 36524 * c) (omega (arith, e, h))

module _ (p c r k q : ℕ) (ec : c ≡ (4 * p + 3) / 146097) (er : r ≡ p - 146097 * c / 4) (ek : k ≡ (4 * r + 3) / 1461) (eq : q ≡ r - 1461 * k / 4) where
  in_century : r ≤ 36524
  in_century = omega arith

  of_century : k ≤ 99
  of_century = let h = in_century in omega (arith, ek)

  counted : 146097 * c / 4 + 1461 * k / 4 + q ≡ p
  counted =
      let a : 146097 * c / 4 + r ≡ p = omega (arith, ec, er) in
      let b : 1461 * k / 4 + q ≡ r = omega (arith, ek, eq) in
      omega (arith, a, b)

  in_year : q ≤ 365
  in_year = omega (arith, ek, eq)

  -- the last day of a longer year
  longer : q ≡ 365 → is_leap (100 * c + k + 1) ≡ true
  longer e = leap_is (100 * c + k + 1) fourth hundredth
    where
      third : k % 4 ≡ 3
      third = let x : 1461 * k ≡ 4 * (1461 * k / 4) + 3 = omega (arith, ek, eq, e) in last_year k (1461 * k / 4) x

      fourth : (100 * c + k + 1) % 4 ≡ 0
      fourth =
          let z : 100 * c + k + 1 ≡ 4 * (25 * c + k / 4 + 1) = omega (arith, third) in
          rw z (mul-mod_right 4 (25 * c + k / 4 + 1))

      hundredth : (0 < (100 * c + k + 1) % 100) ⊎ ((100 * c + k + 1) % 400 ≡ 0)
      hundredth = go (leb k 98) refl
        where
          go : (x : Bool) → leb k 98 ≡ x → (0 < (100 * c + k + 1) % 100) ⊎ ((100 * c + k + 1) % 400 ≡ 0)
          go true h =
              let z : 100 * c + k + 1 ≡ c * 100 + (k + 1) = omega arith in
              inl (rw (z, digits_mod c {m = 100} {r = k + 1} (omega (arith, leb-true k 98 h))) (omega arith))
          go false h =
              let g : k ≡ 99 = omega (arith, leb-false k 98 h, of_century) in
              let t : r ≡ 36524 = omega (arith, eq, e, g) in
              let x : 146097 * c ≡ 4 * (146097 * c / 4) + 3 = omega (arith, ec, er, t) in
              let s : c % 4 ≡ 3 = last_century c (146097 * c / 4) x in
              let z : 100 * c + k + 1 ≡ 400 * (c / 4 + 1) = omega (arith, g, s) in
              inr (rw z (mul-mod_right 400 (c / 4 + 1)))

  pub year_falls : p < 3652059 → InYear p (100 * c + k + 1) q
  year_falls h =
      let same : 100 * c + k + 1 - 1 ≡ 100 * c + k = omega arith in
      let h1 = of_century in
      let h2 = counted in
      record {
        first = omega arith;
        last = omega (arith, h1, h2);
        counted = rw (same, years_split c k of_century) counted;
        inside = go (leb q 364) refl;
      }
    where
      go : (x : Bool) → leb q 364 ≡ x → q < year_length (100 * c + k + 1)
      go true e = omega (arith, leb-true q 364 e, year_least (100 * c + k + 1))
      go false e =
          let z : q ≡ 365 = omega (arith, leb-false q 364 e, in_year) in
          omega (arith, z, leap_longer (100 * c + k + 1) (longer z))
