-- [02 T-05] Units of lengths f 1, f 2 .. one after the other, once for years and months: a place in one is before every later one, and
-- the search of `seek` finds it. Assumes nothing.
use mathlib.Core.Path.{◌≡◌, refl, ap, ◌∙◌}
use mathlib.Core.Bool.{Bool, true, false}
use Prim.Native.Nat.{ℕ, zero, suc, ◌+◌, ◌-◌, ◌≤◌, ◌<◌}
use native.Mathlib.Nat.{le_refl}
use native.Mathlib.Omega.{arith}
use lib.Dec.{leb}
use borrow.Author.Tests.{leb-true, leb-false}
use Rattle.std.specs.Prelude.{if◌then◌else◌}
use Rattle.meaning.specs.Dates.{before, Fall, seek}

-- w is where the p-th place behind the first i units falls: a unit of the next n + 1, and a place in it
pub record Finds (f : ℕ → ℕ) (n i p : ℕ) (w : Fall) : Type 0 where
  pub least : i < w.unit
  pub most : w.unit ≤ suc (i + n)
  pub some : 0 < w.rest
  pub inside : w.rest ≤ f w.unit
  pub place : before f (w.unit - 1) + w.rest ≡ before f i + p

module _ (f : ℕ → ℕ) where
  pub grows : (i j : ℕ) → i ≤ j → before f i ≤ before f j
  grows i zero h = let e : i ≡ 0 = omega arith in rw e (le_refl 0)
  grows i (suc j) h = go (leb i j) refl (λ e. grows i j (leb-true i j e))
    where
      go : (x : Bool) → leb i j ≡ x → (leb i j ≡ true → before f i ≤ before f j) → before f i ≤ before f j + f (suc j)
      go true e g = omega (arith, g e)
      go false e g = let z : i ≡ suc j = omega (arith, leb-false i j e) in rw z (le_refl (before f j + f (suc j)))

  -- a place in one is before every later one
  pub within_grows : (i j r : ℕ) → i < j → r ≤ f (suc i) → before f i + r ≤ before f j
  within_grows i j r h l = omega (arith, grows (suc i) j h)

  -- the same of a unit that is given as it is counted, from 1
  pub within_unit : (k j r : ℕ) → 0 < k → k ≤ j → r ≤ f k → before f (k - 1) + r ≤ before f j
  within_unit k j r z h l =
      let u : suc (k - 1) ≡ k = omega arith in
      within_grows (k - 1) j r (omega arith) (rw u l)

  -- where a place falls
  pub seek_falls : (n i j p r : ℕ) → i ≤ j → j ≤ i + n → p + before f i ≡ before f j + r → 0 < r → r ≤ f (suc j)
      → seek f n (suc i) p ≡ record { unit = suc j; rest = r }
  seek_falls zero i j p r a b e z l =
      let q : i ≡ j = omega arith in
      let s : p ≡ r = omega (arith, e, ap (before f) q) in
      rw (q, s)
  seek_falls (suc n) i j p r a b e z l =
      go (leb p (f (suc i))) refl (leb j i) refl
      (λ (v : f (suc i) < p) (w : i < j). seek_falls n (suc i) j (p - f (suc i)) r w (omega arith) (omega (arith, e, v)) z l)
    where
      go : (x : Bool) → leb p (f (suc i)) ≡ x → (y : Bool) → leb j i ≡ y
          → (f (suc i) < p → i < j → seek f n (suc (suc i)) (p - f (suc i)) ≡ record { unit = suc j; rest = r })
          → (if x then record { unit = suc i; rest = p } else seek f n (suc (suc i)) (p - f (suc i))) ≡ record { unit = suc j; rest = r }
      go true t true u on =
          let q : i ≡ j = omega (arith, leb-true j i u) in
          let s : p ≡ r = omega (arith, e, ap (before f) q) in
          rw (q, s)
      go true t false u on = absurd (omega (arith, e, leb-true p (f (suc i)) t, grows (suc i) j (leb-false j i u)))
      go false t true u on =
          let q : i ≡ j = omega (arith, leb-true j i u) in
          absurd (omega (arith, e, ap (before f) q, ap (λ (k : ℕ). f (suc k)) q, leb-false p (f (suc i)) t))
      go false t false u on = on (leb-false p (f (suc i)) t) (leb-false j i u)

  -- the same from the first unit on, of a unit as it is counted
  pub seek_unit : (n k p r : ℕ) → 0 < k → k ≤ suc n → p ≡ before f (k - 1) + r → 0 < r → r ≤ f k → seek f n 1 p ≡ record { unit = k; rest = r }
  seek_unit n k p r a b e z l =
      let u : suc (k - 1) ≡ k = omega arith in
      seek_falls n 0 (k - 1) p r (omega arith) (omega arith) (omega arith) z (rw u l) ∙ ap (λ (j : ℕ). record { unit = j; rest = r }) u

  -- a place in the first of the units at hand
  at_hand : (n i p : ℕ) → 0 < p → p ≤ f (suc i) → Finds f n i p (record { unit = suc i; rest = p })
  at_hand n i p z l =
      let q : suc i - 1 ≡ i = omega arith in
      record { least = omega arith; most = omega arith; some = z; inside = l; place = ap (λ (k : ℕ). before f k + p) q }

  -- every place in the units at hand is found
  pub seek_finds : (n i p : ℕ) → 0 < p → before f i + p ≤ before f (i + suc n) → Finds f n i p (seek f n (suc i) p)
  seek_finds zero i p z h =
      let q : i + 1 ≡ suc i = omega arith in
      at_hand zero i p z (omega (arith, h, ap (before f) q))
  seek_finds (suc n) i p z h =
      go (leb p (f (suc i))) refl
      (λ (v : f (suc i) < p). seek_finds n (suc i) (p - f (suc i)) (omega (arith, v)) (omega (arith, h, v, ap (before f) moved)))
    where
      moved : i + suc (suc n) ≡ suc i + suc n
      moved = omega arith

      go : (x : Bool) → leb p (f (suc i)) ≡ x → (f (suc i) < p → Finds f n (suc i) (p - f (suc i)) (seek f n (suc (suc i)) (p - f (suc i))))
          → Finds f (suc n) i p (if x then record { unit = suc i; rest = p } else seek f n (suc (suc i)) (p - f (suc i)))
      go true t on = at_hand (suc n) i p z (leb-true p (f (suc i)) t)
      go false t on =
          let v = leb-false p (f (suc i)) t in
          let w = on v in
          record {
            least = omega (arith, w.least);
            most = omega (arith, w.most);
            some = w.some;
            inside = w.inside;
            place = omega (arith, w.place, v);
          }

  -- the same from the first unit on
  pub seek_first : (n p : ℕ) → 0 < p → p ≤ before f (suc n) → Finds f n 0 p (seek f n 1 p)
  seek_first n p z h =
      let q : 0 + suc n ≡ suc n = omega arith in
      seek_finds n 0 p z (omega (arith, ap (before f) q))
