-- What a first byte leads to, read off RFC 3629's rows: what holds of each row that a byte can have, and of no row where it can have none, holds
-- of the byte (`lead_by`). A range of bytes that spans rows or lies between them is then a matter of numbers. Assumes nothing.
use mathlib.Core.Path.{◌≡◌, refl}
use mathlib.Core.List.{List, [], ◌∷◌}
use mathlib.Core.Bool.{false}
use Prim.Native.Nat.{ℕ, zero, suc, ◌≤◌, ◌<◌}
use native.Mathlib.Omega.{arith}
use native.Mathlib.Decide.{dec_le, dec_lt}
use Rattle.meaning.specs.Bytes.{within}
use Rattle.meaning.specs.Chars.{Due, due, broken, lead, leads, lead_in}
use Rattle.laws.proofs.basics.Tests.{within_yes, within_below, within_above}

within_no : (lo hi b : ℕ) → (lo ≤ b → hi < b) → within lo hi b ≡ false
within_no lo hi b h = go (dec_lt b lo)
  where
    go : Dec (b < lo) → within lo hi b ≡ false
    go (yes p) = within_below lo hi b p
    go (no p) = within_above lo hi b (h (omega arith))

-- the rows' first bytes rise from x
abbrev Rising : ℕ → List (ℕ × ℕ × ℕ × ℕ × ℕ) → Type 0
Rising x [] = Unit {0}
Rising x (r ∷ rs) = (x ≤ r.0) × (r.0 ≤ r.1) × Rising (suc r.1) rs

rows_rise : Rising 0 leads
rows_rise = omega arith

below_all : (x : ℕ) (rs : List (ℕ × ℕ × ℕ × ℕ × ℕ)) → Rising x rs → (b : ℕ) → b < x → lead_in rs b ≡ broken
below_all x [] v b h = refl
below_all x (r ∷ rs) v b h = rw (within_below r.0 r.1 b (omega arith)) (below_all (suc r.1) rs v.2 b (omega arith))

-- P holds of what each row makes due, and of no row between two of them, wherever b can be there
abbrev pub By : (Due → Type 0) → ℕ → List (ℕ × ℕ × ℕ × ℕ × ℕ) → ℕ → Type 0
By P x [] b = x ≤ b → P broken
By P x (r ∷ rs) b = (x ≤ b → b < r.0 → P broken) × (r.0 ≤ b → b ≤ r.1 → P (due r.2 r.3 r.4)) × By P (suc r.1) rs b

lead_in_by : (P : Due → Type 0) (x : ℕ) (rs : List (ℕ × ℕ × ℕ × ℕ × ℕ)) → Rising x rs → (b : ℕ) → x ≤ b → By P x rs b → P (lead_in rs b)
lead_in_by P x [] v b l h = h l
lead_in_by P x (r ∷ rs) v b l h = go (dec_lt b r.0) (dec_le b r.1) (λ k. lead_in_by P (suc r.1) rs v.2 b k h.2)
  where
    go : Dec (b < r.0) → Dec (b ≤ r.1) → (r.1 < b → P (lead_in rs b)) → P (lead_in (r ∷ rs) b)
    go (yes p) q ih =
        rw (within_below r.0 r.1 b p) (rw (below_all (suc r.1) rs v.2 b (omega arith)) (h.0 l p))
    go (no p) (yes q) ih = let g : r.0 ≤ b = omega arith in rw (within_yes r.0 r.1 b g q) (h.1 g q)
    go (no p) (no q) ih = let g : r.1 < b = omega arith in rw (within_above r.0 r.1 b g) (ih g)

pub lead_by : (P : Due → Type 0) (b : ℕ) → By P 0 leads b → P (lead b)
unfolding lead
lead_by P b h = lead_in_by P 0 leads rows_rise b (omega arith) h

-- b stands outside the first i rows and in the next, or in none
abbrev pub At : List (ℕ × ℕ × ℕ × ℕ × ℕ) → ℕ → ℕ → Type 0
At [] i b = Unit {0}
At (r ∷ rs) zero b = (r.0 ≤ b) × (b ≤ r.1)
At (r ∷ rs) (suc i) b = (r.0 ≤ b → r.1 < b) × At rs i b

abbrev pub due_at : List (ℕ × ℕ × ℕ × ℕ × ℕ) → ℕ → Due
due_at [] i = broken
due_at (r ∷ rs) zero = due r.2 r.3 r.4
due_at (r ∷ rs) (suc i) = due_at rs i

lead_in_at : (rs : List (ℕ × ℕ × ℕ × ℕ × ℕ)) (i b : ℕ) → At rs i b → due_at rs i ≡ lead_in rs b
lead_in_at [] i b h = refl
lead_in_at (r ∷ rs) zero b h = rw (within_yes r.0 r.1 b h.0 h.1)
lead_in_at (r ∷ rs) (suc i) b h = rw (within_no r.0 r.1 b h.0) (lead_in_at rs i b h.1)

pub lead_at : (i b : ℕ) → At leads i b → due_at leads i ≡ lead b
unfolding lead
lead_at i b h = lead_in_at leads i b h
