-- The ten bytes of a day, as the code reads them: two digits at a time. Assumes nothing.
use mathlib.Core.Path.{◌≡◌, refl, ap, sym, ◌∙◌}
use mathlib.Core.Bool.{Bool, true, false, ◌&&◌, ◌||◌, not, and-false, false≢true}
use mathlib.Core.List.{List, [], ◌∷◌}
use Prim.Native.Nat.{ℕ, zero, suc, ◌+◌, ◌*◌, ◌≤◌}
use Prim.Native.Char.{code}
use native.Mathlib.Omega.{arith}
use borrow.Author.Tests.{ne_eqb}
use lib.Dec.{eqb}
use lib.ListN.{length, take, drop}
use lib.Seq.{drop-cons}
use Rattle.meaning.specs.Bytes.{◌!◌, part, number, all_digits}
use Rattle.meaning.specs.Dates.{digits_in, is_ten_bytes, is_date, day_in}
use Rattle.calendar.specs.Falls.{day_of}
use Rattle.calendar.specs.Pairs.{pair_of}
use Rattle.calendar.proofs.Digits.{two, all_two, all_four, pair_none, pair_two, pair_number, pairs_number}
use Rattle.meaning.specs.declared.CalendarDay.{CalendarDay}
use Rattle.std.specs.Prelude.{Option, Some, None}

neither : (a b : Bool) → (not a || not b) ≡ false → (a ≡ true) × (b ≡ true)
neither true true e = (refl, refl)
neither true false e = absurd (false≢true (sym e))
neither false b e = absurd (false≢true (sym e))

-- n bytes from place f on
abbrev run : ℕ → ℕ → List ℕ → List ℕ
run zero f v = []
run (suc n) f v = v ! f ∷ run n (suc f) v

run_is : (n f : ℕ) (v : List ℕ) → f + n ≤ length v → take n (drop f v) ≡ run n f v
run_is zero f v h = refl
run_is (suc n) f v h = rw (drop-cons v f 0 (omega arith)) (ap (λ (t : List ℕ). v ! f ∷ t) (run_is n (suc f) v (omega arith)))

-- `is_ten_bytes` of the parts
abbrev ten_by : ℕ → List ℕ → ℕ → List ℕ → ℕ → List ℕ → Bool
ten_by n y a m b d = eqb n 10 && all_digits 10 y && eqb a (code "-") && all_digits 10 m && eqb b (code "-") && all_digits 10 d

module _ (v : List ℕ) where
  no_ten : is_ten_bytes v ≡ false → None ≡ day_in v
  unfolding day_in is_date
  no_ten e = rw e

  ten_read : is_ten_bytes v ≡ true → day_of (digits_in 0 4 v) (digits_in 5 7 v) (digits_in 8 10 v) ≡ day_in v
  unfolding day_in is_date day_of
  ten_read e = rw e

  pub wrong_length : (length v ≡ 10 → ⊥) → None ≡ day_in v
  unfolding is_ten_bytes
  wrong_length n = no_ten (rw (ne_eqb (length v) 10 n))

  module _ (l : length v ≡ 10) where
    tested : is_ten_bytes v
        ≡ (two (v ! 0) (v ! 1) && two (v ! 2) (v ! 3) && eqb (v ! 4) 45 && two (v ! 5) (v ! 6) && eqb (v ! 7) 45 && two (v ! 8) (v ! 9))
    unfolding is_ten_bytes
    tested =
        ap (λ (n : ℕ). ten_by n (part 0 4 v) (v ! 4) (part 5 7 v) (v ! 7) (part 8 10 v)) l
        ∙ ap (λ (t : List ℕ). ten_by 10 t (v ! 4) (part 5 7 v) (v ! 7) (part 8 10 v)) (run_is 4 0 v (omega arith))
        ∙ ap (λ (t : List ℕ). ten_by 10 (run 4 0 v) (v ! 4) t (v ! 7) (part 8 10 v)) (run_is 2 5 v (omega arith))
        ∙ ap (λ (t : List ℕ). ten_by 10 (run 4 0 v) (v ! 4) (run 2 5 v) (v ! 7) t) (run_is 2 8 v (omega arith))
        ∙ rw (all_four (v ! 0) (v ! 1) (v ! 2) (v ! 3), all_two (v ! 5) (v ! 6), all_two (v ! 8) (v ! 9))

    -- another byte for a hyphen
    pub no_hyphen : (not (eqb (v ! 4) 45) || not (eqb (v ! 7) 45)) ≡ true → None ≡ day_in v
    no_hyphen e =
        no_ten (tested ∙ go (two (v ! 0) (v ! 1) && two (v ! 2) (v ! 3)) (eqb (v ! 4) 45) (two (v ! 5) (v ! 6)) (eqb (v ! 7) 45) (two (v ! 8) (v ! 9)) e)
      where
        go : (x a y b z : Bool) → (not a || not b) ≡ true → (x && a && y && b && z) ≡ false
        go x false y b z e = rw (and-false x)
        go x true y false z e = rw (and-false (x && true && y))
        go x true y true z e = absurd (false≢true e)

    -- no digits for the century, the year of it, the month, the day
    pub no_century : (r : Option ℕ) → r ≡ pair_of (v ! 0) (v ! 1) → r ≡ None → None ≡ day_in v
    no_century r e q = no_ten (tested ∙ go (two (v ! 0) (v ! 1)) (pair_none (v ! 0) (v ! 1) r e q))
      where
        go : (x : Bool) → x ≡ false
            → (x && two (v ! 2) (v ! 3) && eqb (v ! 4) 45 && two (v ! 5) (v ! 6) && eqb (v ! 7) 45 && two (v ! 8) (v ! 9)) ≡ false
        go x e = rw e

    pub no_of_century : (r : Option ℕ) → r ≡ pair_of (v ! 2) (v ! 3) → r ≡ None → None ≡ day_in v
    no_of_century r e q =
        no_ten (tested ∙ go (two (v ! 0) (v ! 1)) (two (v ! 2) (v ! 3)) (pair_none (v ! 2) (v ! 3) r e q))
      where
        go : (x y : Bool) → y ≡ false → (x && y && eqb (v ! 4) 45 && two (v ! 5) (v ! 6) && eqb (v ! 7) 45 && two (v ! 8) (v ! 9)) ≡ false
        go x y e = rw (e, and-false x)

    pub no_digits_month : (r : Option ℕ) → r ≡ pair_of (v ! 5) (v ! 6) → r ≡ None → None ≡ day_in v
    no_digits_month r e q =
        no_ten (tested ∙ go (two (v ! 0) (v ! 1) && two (v ! 2) (v ! 3) && eqb (v ! 4) 45) (two (v ! 5) (v ! 6)) (pair_none (v ! 5) (v ! 6) r e q))
      where
        go : (x y : Bool) → y ≡ false → (x && y && eqb (v ! 7) 45 && two (v ! 8) (v ! 9)) ≡ false
        go x y e = rw (e, and-false x)

    pub no_digits_day : (r : Option ℕ) → r ≡ pair_of (v ! 8) (v ! 9) → r ≡ None → None ≡ day_in v
    no_digits_day r e q =
        no_ten (tested
        ∙ go (two (v ! 0) (v ! 1) && two (v ! 2) (v ! 3) && eqb (v ! 4) 45 && two (v ! 5) (v ! 6) && eqb (v ! 7) 45) (two (v ! 8) (v ! 9))
        (pair_none (v ! 8) (v ! 9) r e q))
      where
        go : (x y : Bool) → y ≡ false → (x && y) ≡ false
        go x y e = rw (e, and-false x)

    -- all of them
    module _ (i : (not (eqb (v ! 4) 45) || not (eqb (v ! 7) 45)) ≡ false) (r s t u : Option ℕ) (er : r ≡ pair_of (v ! 0) (v ! 1))
        (es : s ≡ pair_of (v ! 2) (v ! 3)) (et : t ≡ pair_of (v ! 5) (v ! 6)) (eu : u ≡ pair_of (v ! 8) (v ! 9))
        (n k m d : ℕ) (qr : r ≡ Some n) (qs : s ≡ Some k) (qt : t ≡ Some m) (qu : u ≡ Some d) where
      hyphens : (eqb (v ! 4) 45 ≡ true) × (eqb (v ! 7) 45 ≡ true)
      hyphens = neither (eqb (v ! 4) 45) (eqb (v ! 7) 45) i

      right : is_ten_bytes v ≡ true
      right =
          tested
          ∙ go (two (v ! 0) (v ! 1)) (two (v ! 2) (v ! 3)) (eqb (v ! 4) 45) (two (v ! 5) (v ! 6)) (eqb (v ! 7) 45) (two (v ! 8) (v ! 9))
          (pair_two (v ! 0) (v ! 1) r er n qr) (pair_two (v ! 2) (v ! 3) s es k qs) hyphens.0 (pair_two (v ! 5) (v ! 6) t et m qt) hyphens.1
          (pair_two (v ! 8) (v ! 9) u eu d qu)
        where
          go : (x y a z b w : Bool) → x ≡ true → y ≡ true → a ≡ true → z ≡ true → b ≡ true → w ≡ true → (x && y && a && z && b && w) ≡ true
          go x y a z b w ex ey ea ez eb ew = rw (ex, ey, ea, ez, eb, ew)

      year_read : 100 * n + k ≡ digits_in 0 4 v
      year_read = pairs_number (v ! 0) (v ! 1) (v ! 2) (v ! 3) r s er es n k qr qs ∙ ap (number 10 4 0) (sym (run_is 4 0 v (omega arith)))

      month_read : m ≡ digits_in 5 7 v
      month_read = pair_number (v ! 5) (v ! 6) t et m qt ∙ ap (number 10 2 0) (sym (run_is 2 5 v (omega arith)))

      day_read : d ≡ digits_in 8 10 v
      day_read = pair_number (v ! 8) (v ! 9) u eu d qu ∙ ap (number 10 2 0) (sym (run_is 2 8 v (omega arith)))

      pub ten_bytes : (a : Option CalendarDay) → a ≡ day_of (100 * n + k) m d → a ≡ day_in v
      ten_bytes a e =
          e ∙ ap (λ (y : ℕ). day_of y m d) year_read ∙ ap (λ (x : ℕ). day_of (digits_in 0 4 v) x d) month_read
          ∙ ap (λ (x : ℕ). day_of (digits_in 0 4 v) (digits_in 5 7 v) x) day_read ∙ ten_read right
