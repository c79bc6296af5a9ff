-- Laws of white space: what follows a gap changes nothing in it, and a gap ends where none follows; no quote mark begins white space.
-- Assumes nothing.
use mathlib.Core.Path.{◌≡◌, refl, ap, sym, ◌∙◌, subst}
use mathlib.Core.Bool.{Bool, true, false, ◌||◌}
use mathlib.Core.List.{List, [], ◌∷◌, ◌++◌}
use Prim.Native.Nat.{ℕ, zero, suc, ◌+◌, ◌-◌, ◌*◌, ◌≤◌}
use native.Mathlib.Nat.{add-zero, zero-add}
use native.Mathlib.Omega.{arith}
use lib.Dec.{T, eqb, leb}
use borrow.Author.Tests.{le-leb, leb-true, leb-false, eqb-true}
use lib.ListN.{length, drop}
use Rattle.meaning.specs.Bytes.{has, within, is_mark}
use Rattle.std.specs.Prelude.{if◌then◌else◌}
use Rattle.meaning.specs.Chars.{Due, due, broken, lead, gather, base, is_space, space, space_at}
use Rattle.meaning.specs.Walk.{walk, size}
use Rattle.meaning.specs.Steps.{space_step, space_by, gap}
use Rattle.laws.proofs.utf8.Utf8.{Good, Ranged, lead_good}
use Rattle.laws.proofs.basics.Tests.{true→T, within_bounds, within_below}
use Rattle.laws.proofs.walking.Walks.{walk_append, LocalIn, Inside, Exact, exact_ends, size_graft, Fits, FitsIn, fits_size}

-- a later byte that is due is never below 80
pub lead_low : (b n lo hi : ℕ) → lead b ≡ due n lo hi → leb 0x80 lo ≡ true
lead_low b n lo hi e = go n (subst Good e (lead_good b))
  where
    go : (n : ℕ) → Ranged n lo hi → leb 0x80 lo ≡ true
    go zero r = le-leb 0x80 lo (omega arith)
    go (suc n) r = le-leb 0x80 lo (omega arith)

pub due_high : (lo hi b : ℕ) → leb 0x80 lo ≡ true → within lo hi b ≡ true → leb 0x80 b ≡ true
due_high lo hi b l e = let k = within_bounds lo hi b e in let h = leb-true 0x80 lo l in le-leb 0x80 b (omega arith)

pub below_due : (lo hi b : ℕ) → leb 0x80 lo ≡ true → leb 0x80 b ≡ false → within lo hi b ≡ false
below_due lo hi b l e = let h = leb-true 0x80 lo l in let k = leb-false 0x80 b e in within_below lo hi b (omega arith)

pub no_space : is_space 0 ≡ false
unfolding is_space within
no_space = refl

pub gather_append : (n lo hi v : ℕ) (t r : List ℕ) → is_space (gather n lo hi v t) ≡ true → gather n lo hi v (t ++ r) ≡ gather n lo hi v t
gather_append zero lo hi v t r h = refl
gather_append (suc n) lo hi v [] r h = absurd (true→T false (sym no_space ∙ h))
gather_append (suc n) lo hi v (b ∷ t) r h = go (within lo hi b) refl h (gather_append n 0x80 0xBF (v * 64 + (b - 0x80)) t r)
  where
    inner : List ℕ → ℕ
    inner s = gather n 0x80 0xBF (v * 64 + (b - 0x80)) s

    go : (x : Bool) → within lo hi b ≡ x → is_space (if x then inner t else 0) ≡ true
        → (is_space (inner t) ≡ true → inner (t ++ r) ≡ inner t)
        → gather (suc n) lo hi v (b ∷ (t ++ r)) ≡ gather (suc n) lo hi v (b ∷ t)
    go true e g ih = rw e (ih g)
    go false e g ih = rw e

pub gather_fits : (n lo hi v : ℕ) (t : List ℕ) → is_space (gather n lo hi v t) ≡ true → n ≤ length t
gather_fits zero lo hi v t h = omega arith
gather_fits (suc n) lo hi v [] h = absurd (true→T false (sym no_space ∙ h))
gather_fits (suc n) lo hi v (b ∷ t) h = go (within lo hi b) h (gather_fits n 0x80 0xBF (v * 64 + (b - 0x80)) t)
  where
    go : (x : Bool) → is_space (if x then gather n 0x80 0xBF (v * 64 + (b - 0x80)) t else 0) ≡ true
        → (is_space (gather n 0x80 0xBF (v * 64 + (b - 0x80)) t) ≡ true → n ≤ length t) → suc n ≤ suc (length t)
    go true g ih = let r = ih g in omega arith
    go false g ih = absurd (true→T false (sym no_space ∙ g))

pub space_local : (r : List ℕ) → LocalIn space_step r
space_local r b t i = go (lead b) refl i
  where
    at : (n lo hi : ℕ) (x : Bool) → is_space (gather n lo hi (b - base n) t) ≡ x → Inside (space_by (if x then suc n else 0)) (length t)
        → space_by (space_at (due n lo hi) b (t ++ r)) ≡ space_by (space_at (due n lo hi) b t)
    at n lo hi true ex j = rw (gather_append n lo hi (b - base n) t r ex)
    at n lo hi false ex j = absurd j

    go : (d : Due) → lead b ≡ d → Inside (space_by (space_at d b t)) (length t) → space_step (b ∷ (t ++ r)) ≡ space_step (b ∷ t)
    go broken e j = absurd j
    go (due n lo hi) e j = rw e (at n lo hi (is_space (gather n lo hi (b - base n) t)) refl j)

pub space_fits : Fits space_step
space_fits b t = go (lead b)
  where
    at : (n lo hi : ℕ) (x : Bool) → is_space (gather n lo hi (b - base n) t) ≡ x → FitsIn (space_by (if x then suc n else 0)) (length t)
    at n lo hi true ex = gather_fits n lo hi (b - base n) t ex
    at n lo hi false ex = tt

    go : (d : Due) → FitsIn (space_by (space_at d b t)) (length t)
    go broken = tt
    go (due n lo hi) = at n lo hi (is_space (gather n lo hi (b - base n) t)) refl

pub gap_fits : (t : List ℕ) → gap t ≤ length t
gap_fits t = let h = fits_size space_step space_fits 0 t (omega arith) in omega arith

-- white space w, and behind it a byte that begins none
pub gap_append : (w : List ℕ) → Exact space_step w → (c : ℕ) (t : List ℕ) → space (c ∷ t) ≡ 0 → gap (w ++ (c ∷ t)) ≡ length w
gap_append w ex c t s =
    rw (walk_append space_step (c ∷ t) (space_local (c ∷ t)) 0 w (zero-add (size (walk space_step 0 w)) ∙ ex))
    (size_graft (walk space_step 0 w) (walk space_step 0 (c ∷ t)) (exact_ends space_step 0 w (zero-add (size (walk space_step 0 w)) ∙ ex))
    ∙ ap (λ (m : ℕ). size (walk space_step 0 w) + m) at_rest ∙ add-zero (size (walk space_step 0 w)) ∙ ex)
  where
    at_rest : size (walk space_step 0 (c ∷ t)) ≡ 0
    at_rest = rw s

-- A byte of a list that all pass
abbrev pub AllP : (ℕ → Type 0) → List ℕ → Type 0
AllP P [] = Unit {0}
AllP P (c ∷ l) = P c × AllP P l

pub has_all : (P : ℕ → Type 0) (b : ℕ) (l : List ℕ) → AllP P l → has b l ≡ true → P b
has_all P b [] a h = absurd (subst T (sym h) tt)
has_all P b (c ∷ l) a h = go (eqb b c) refl h (has_all P b l a.1)
  where
    go : (x : Bool) → eqb b c ≡ x → (x || has b l) ≡ true → (has b l ≡ true → P b) → P b
    go true e g ih = subst P (sym (eqb-true b c e)) a.0
    go false e g ih = ih g

pub all_append : (P : ℕ → Type 0) (l r : List ℕ) → AllP P l → AllP P r → AllP P (l ++ r)
all_append P [] r a b = b
all_append P (c ∷ l) r a b = (a.0, all_append P l r a.1 b)

pub all_drop : (P : ℕ → Type 0) (n : ℕ) (l : List ℕ) → AllP P l → AllP P (drop n l)
all_drop P zero l a = a
all_drop P (suc n) [] a = tt
all_drop P (suc n) (c ∷ l) a = all_drop P n l a.1

-- a byte that begins no white space; a quote mark is one
abbrev pub Solid : ℕ → Type 0
Solid b = (t : List ℕ) → space (b ∷ t) ≡ 0

pub mark_solid : (b : ℕ) → is_mark b ≡ true → Solid b
unfolding is_mark lead within is_space
mark_solid b h = has_all Solid b (39 ∷ 34 ∷ []) ((λ t. refl), ((λ t. refl), tt)) h
