-- Laws of UTF-8 texts: what follows a whole text, what may be due, ASCII bytes, and bounds of bytes. What holds of every row of
-- RFC 3629's table holds of every first byte (`lead_row`). Assumes nothing.
use mathlib.Core.Logic.{◌⊎◌, inl, inr}
use mathlib.Core.Path.{◌≡◌, refl, ap, ◌∙◌}
use mathlib.Core.Bool.{Bool, true, false, false≢true}
use mathlib.Core.List.{List, [], ◌∷◌, ◌++◌}
use Prim.Native.Nat.{ℕ, zero, suc, ◌≤◌, ◌<◌}
use native.Mathlib.Omega.{arith}
use Rattle.meaning.specs.Bytes.{within, ◌!◌}
use Rattle.std.specs.Prelude.{if◌then◌else◌}
use Rattle.meaning.specs.Chars.{Due, due, broken, fresh, push, pushes, whole, utf8, lead, leads, lead_in}
use Rattle.laws.proofs.basics.Tests.{within_yes, within_below, within_bounds}

pub pushes_append : (d : Due) (a b : List ℕ) → pushes d (a ++ b) ≡ pushes (pushes d a) b
pushes_append d [] b = refl
pushes_append d (c ∷ a) b = pushes_append (push d c) a b

pub pushes_broken : (t : List ℕ) → pushes broken t ≡ broken
pushes_broken [] = refl
pushes_broken (b ∷ t) = pushes_broken t

-- between characters nothing is remembered
pub whole_next : (d : Due) → whole d ≡ true → (b : List ℕ) → whole (pushes d b) ≡ whole (pushes fresh b)
whole_next broken h b = absurd (false≢true h)
whole_next (due zero lo hi) h [] = refl
whole_next (due zero lo hi) h (c ∷ b) = refl
whole_next (due (suc n) lo hi) h b = absurd (false≢true h)

pub utf8_append : (a b : List ℕ) → utf8 a ≡ true → utf8 (a ++ b) ≡ utf8 b
unfolding utf8
utf8_append a b h = ap whole (pushes_append fresh a b) ∙ whole_next (pushes fresh a) h b

pub utf8_join : (a g b : List ℕ) → utf8 a ≡ true → utf8 g ≡ true → utf8 b ≡ true → utf8 (a ++ (g ++ b)) ≡ true
utf8_join a g b ha hg hb = utf8_append a (g ++ b) ha ∙ utf8_append g b hg ∙ hb

-- P holds of every row
abbrev pub Rows : (ℕ → ℕ → ℕ → ℕ → ℕ → Type 0) → List (ℕ × ℕ × ℕ × ℕ × ℕ) → Type 0
Rows P [] = Unit {0}
Rows P (r ∷ rs) = P r.0 r.1 r.2 r.3 r.4 × Rows P rs

-- the row that a first byte has: it holds the byte, and makes due what the byte makes due
pub record InRow (P : ℕ → ℕ → ℕ → ℕ → ℕ → Type 0) (b n lo hi : ℕ) : Type 0 where
  pub from : ℕ
  pub upto : ℕ
  pub above : from ≤ b
  pub below : b ≤ upto
  pub holds : P from upto n lo hi

lead_in_row : (P : ℕ → ℕ → ℕ → ℕ → ℕ → Type 0) (rs : List (ℕ × ℕ × ℕ × ℕ × ℕ)) → Rows P rs → (b n lo hi : ℕ) → lead_in rs b ≡ due n lo hi → InRow P b n lo hi
lead_in_row P [] a b n lo hi e = let z : ◌≡◌ {A = ℕ} 0 1 = cc in absurd (omega arith)
lead_in_row P (r ∷ rs) a b n lo hi e = go (within r.0 r.1 b) refl e (lead_in_row P rs a.1 b n lo hi)
  where
    go : (x : Bool) → within r.0 r.1 b ≡ x → (if x then due r.2 r.3 r.4 else lead_in rs b) ≡ due n lo hi
        → (lead_in rs b ≡ due n lo hi → InRow P b n lo hi) → InRow P b n lo hi
    go true w e ih =
        let p : r.2 ≡ n = cc in let q : r.3 ≡ lo = cc in let s : r.4 ≡ hi = cc in
        let k = within_bounds r.0 r.1 b w in
        record { from = r.0; upto = r.1; above = k.0; below = k.1; holds = rw (p, q, s) at a.0 }
    go false w e ih = ih e

pub lead_row : (P : ℕ → ℕ → ℕ → ℕ → ℕ → Type 0) → Rows P leads → (b n lo hi : ℕ) → lead b ≡ due n lo hi → InRow P b n lo hi
unfolding lead
lead_row P a b n lo hi e = lead_in_row P leads a b n lo hi e

pub low_lead : (b : ℕ) → b < 0x80 → lead b ≡ fresh
unfolding lead
low_lead b h = rw (within_yes 0 0x7F b (omega arith) (omega arith))

-- where a character begins nothing is remembered; a later byte is due in 80 .. BF at the widest, and there is one
abbrev pub Ranged : ℕ → ℕ → ℕ → Type 0
Ranged zero lo hi = (lo ≡ 0x80) × (hi ≡ 0xBF)
Ranged (suc n) lo hi = (0x80 ≤ lo) × (hi ≤ 0xBF) × (lo ≤ hi)

pub ranged_all : (n : ℕ) → Ranged n 0x80 0xBF
ranged_all zero = (refl, refl)
ranged_all (suc n) = omega arith

abbrev pub Good : Due → Type 0
Good broken = Unit {0}
Good (due n lo hi) = Ranged n lo hi

rows_ranged : Rows (λ f u n lo hi. Ranged n lo hi) leads
rows_ranged = omega arith

pub lead_good : (b : ℕ) → Good (lead b)
lead_good b = go (lead b) refl
  where
    go : (d : Due) → lead b ≡ d → Good d
    go broken e = tt
    go (due n lo hi) e = (lead_row (λ f u n lo hi. Ranged n lo hi) rows_ranged b n lo hi e).holds

pub push_good : (d : Due) (b : ℕ) → Good d → Good (push d b)
push_good broken b g = tt
push_good (due zero lo hi) b g = lead_good b
push_good (due (suc n) lo hi) b g = go (within lo hi b)
  where
    go : (x : Bool) → Good (if x then due n 0x80 0xBF else broken)
    go true = ranged_all n
    go false = tt

pub pushes_good : (d : Due) (t : List ℕ) → Good d → Good (pushes d t)
pushes_good d [] g = g
pushes_good d (b ∷ t) g = pushes_good (push d b) t (push_good d b g)

pub fresh_good : Good fresh
fresh_good = ranged_all 0

-- an ASCII byte ends a character, or breaks one
pub ascii_push : (d : Due) (b : ℕ) → Good d → b < 0x80 → push d b ≡ (if whole d then fresh else broken)
ascii_push broken b g h = refl
ascii_push (due zero lo hi) b g h = low_lead b h
ascii_push (due (suc n) lo hi) b g h = rw (within_below lo hi b (omega arith))

-- a byte that is taken is below 256
rows_bound : Rows (λ f u n lo hi. u ≤ 0xF4) leads
rows_bound = omega arith

push_bound : (d : Due) (b : ℕ) → Good d → (push d b ≡ broken) ⊎ (b < 256)
push_bound broken b g = inl refl
push_bound (due zero lo hi) b g = go (lead b) refl
  where
    go : (d : Due) → lead b ≡ d → (d ≡ broken) ⊎ (b < 256)
    go broken e = inl refl
    go (due n lo hi) e = let r = lead_row (λ f u n lo hi. u ≤ 0xF4) rows_bound b n lo hi e in inr (omega arith)
push_bound (due (suc n) lo hi) b g = go (within lo hi b) refl
  where
    go : (x : Bool) → within lo hi b ≡ x → ((if x then due n 0x80 0xBF else broken) ≡ broken) ⊎ (b < 256)
    go true w = let k = within_bounds lo hi b w in inr (omega arith)
    go false w = inl refl

pushes_bound : (d : Due) (t : List ℕ) → Good d → whole (pushes d t) ≡ true → (i : ℕ) → t ! i < 256
pushes_bound d [] g h i = omega arith
pushes_bound d (b ∷ t) g h zero = go (push_bound d b g)
  where
    go : (push d b ≡ broken) ⊎ (b < 256) → b < 256
    go (inl e) = absurd (false≢true (rw (e, pushes_broken t) at h))
    go (inr l) = l
pushes_bound d (b ∷ t) g h (suc i) = pushes_bound (push d b) t (push_good d b g) h i

pub utf8_bytes : (t : List ℕ) → utf8 t ≡ true → (i : ℕ) → t ! i < 256
unfolding utf8
utf8_bytes t h i = pushes_bound fresh t fresh_good h i

-- a byte from 80 to BF begins no character
rows_apart : Rows (λ f u n lo hi. (b : ℕ) → f ≤ b → b ≤ u → 0x80 ≤ b → 0xBF < b) leads
rows_apart = omega arith

pub later_lead : (b : ℕ) → within 0x80 0xBF b ≡ true → lead b ≡ broken
later_lead b w = go (lead b) refl
  where
    go : (d : Due) → lead b ≡ d → d ≡ broken
    go broken e = refl
    go (due n lo hi) e =
        let r = lead_row (λ f u n lo hi. (b : ℕ) → f ≤ b → b ≤ u → 0x80 ≤ b → 0xBF < b) rows_apart b n lo hi e in
        let k = within_bounds 0x80 0xBF b w in
        let l = r.holds b r.above r.below k.0 in
        absurd (omega arith)
