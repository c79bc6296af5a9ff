-- A UESCAPE argument's character is what stands between its marks, as it stands: a doubled quote mark is never legal. Assumes nothing.
use mathlib.Core.Logic.{◌⊎◌, inl, inr}
use mathlib.Core.Path.{◌≡◌, refl, ap, sym, ◌∙◌, subst}
use mathlib.Core.Bool.{Bool, true, false, ◌&&◌, ◌||◌, not, false≢true, and-false}
use mathlib.Core.List.{List, [], ◌∷◌}
use Prim.Native.Nat.{ℕ, zero, suc, ◌+◌, ◌-◌}
use native.Mathlib.Omega.{arith}
use lib.Dec.{eqb, ltb}
use lib.ListN.{length}
use borrow.Author.Tests.{eqb-true, ne_eqb}
use Rattle.meaning.specs.Bytes.{◌!◌, part, ascii, has, within, quote, digit}
use Rattle.std.specs.Prelude.{if◌then◌else◌}
use Rattle.meaning.specs.Chars.{Due, due, broken, lead, laters, space}
use Rattle.meaning.specs.Walk.{walk, stops, value}
use Rattle.meaning.specs.Steps.{standard_step, doubled}
use Rattle.meaning.specs.Spelling.{is_one, legal_escape, argument_by, encloses, argument}
use Rattle.laws.proofs.basics.Tests.{and_left, and_right, or_left, or_right, eqb_sym, within_bounds}

-- without a quote mark the text is its own value
quoteless : (t : List ℕ) → has quote t ≡ false → (value (walk (standard_step false quote) 0 t) ≡ t) × (stops (walk (standard_step false quote) 0 t) ≡ false)
quoteless [] h = (refl, refl)
quoteless (b ∷ t) h = go (eqb b quote) refl (or_left (eqb quote b) (has quote t) h) (quoteless t (or_right (eqb quote b) (has quote t) h))
  where
    go : (x : Bool) → eqb b quote ≡ x → eqb quote b ≡ false
        → (value (walk (standard_step false quote) 0 t) ≡ t) × (stops (walk (standard_step false quote) 0 t) ≡ false)
        → (value (walk (standard_step false quote) 0 (b ∷ t)) ≡ b ∷ t) × (stops (walk (standard_step false quote) 0 (b ∷ t)) ≡ false)
    go true e n ih = absurd (false≢true (sym n ∙ eqb_sym quote b ∙ e))
    go false e n ih = rw e (ap (b ∷◌) ih.0, ih.1)

-- with one, reading stops or the value has one
quoted : (t : List ℕ) → has quote t ≡ true
    → (stops (walk (standard_step false quote) 0 t) ≡ true) ⊎ (has quote (value (walk (standard_step false quote) 0 t)) ≡ true)
unfolding doubled
quoted [] h = absurd (false≢true h)
quoted (b ∷ t) h = go (eqb b quote) (eqb (t ! 0) quote) refl refl h (quoted t)
  where
    or_in : (x y : Bool) → y ≡ true → (x || y) ≡ true
    or_in true y e = refl
    or_in false y e = e

    go : (x y : Bool) → eqb b quote ≡ x → eqb (t ! 0) quote ≡ y → (eqb quote b || has quote t) ≡ true
        → (has quote t ≡ true → (stops (walk (standard_step false quote) 0 t) ≡ true) ⊎ (has quote (value (walk (standard_step false quote) 0 t)) ≡ true))
        → (stops (walk (standard_step false quote) 0 (b ∷ t)) ≡ true) ⊎ (has quote (value (walk (standard_step false quote) 0 (b ∷ t))) ≡ true)
    go true true ex ey h ih = rw (ex, ey) (inr refl)
    go true false ex ey h ih = rw (ex, ey) (inl refl)
    go false y ex ey h ih = rw ex (later (ih (rw (eqb_sym quote b, ex) at h)))
      where
        later : (stops (walk (standard_step false quote) 0 t) ≡ true) ⊎ (has quote (value (walk (standard_step false quote) 0 t)) ≡ true)
            → (stops (walk (standard_step false quote) 0 t) ≡ true) ⊎ ((eqb quote b || has quote (value (walk (standard_step false quote) 0 t))) ≡ true)
        later (inl s) = inl s
        later (inr v) = inr (or_in (eqb quote b) (has quote (value (walk (standard_step false quote) 0 t))) v)

-- no legal character has a quote mark
laters_quoteless : (n : ℕ) (t : List ℕ) → laters n t ≡ true → has quote t ≡ false
laters_quoteless zero [] h = refl
laters_quoteless zero (b ∷ t) h = absurd (false≢true h)
laters_quoteless (suc n) [] h = absurd (false≢true h)
laters_quoteless (suc n) (b ∷ t) h =
    let l = within_bounds 0x80 0xBF b (and_left (within 0x80 0xBF b) (laters n t) h) in
    rw (ne_eqb quote b (λ e. omega arith)) (laters_quoteless n t (and_right (within 0x80 0xBF b) (laters n t) h))

legal_quoteless : (t : List ℕ) → legal_escape t ≡ true → has quote t ≡ false
legal_quoteless [] h = refl
legal_quoteless (b ∷ t) h =
    let a : (is_one (lead b) t && ltb 15 (digit b) && not (has b (ascii "+'\""))) ≡ true = and_left _ (eqb (space (b ∷ t)) 0) h in
    let n = and_right (is_one (lead b) t && ltb 15 (digit b)) (not (has b (ascii "+'\""))) a in
    let o = and_left (is_one (lead b) t) (ltb 15 (digit b)) (and_left (is_one (lead b) t && ltb 15 (digit b)) (not (has b (ascii "+'\""))) a) in
    go (eqb quote b) refl n (one (lead b) o)
  where
    one : (d : Due) → is_one d t ≡ true → has quote t ≡ false
    one broken e = absurd (false≢true e)
    one (due n lo hi) e = laters_quoteless n t e

    go : (x : Bool) → eqb quote b ≡ x → not (has b (ascii "+'\"")) ≡ true → has quote t ≡ false → (x || has quote t) ≡ false
    go true e n r = absurd (false≢true (subst (λ (c : ℕ). not (has c (ascii "+'\"")) ≡ true) (sym (eqb-true quote b e)) n))
    go false e n r = r

illegal : (t : List ℕ) → has quote t ≡ true → legal_escape t ≡ false
illegal t h = go (legal_escape t) refl
  where
    go : (x : Bool) → legal_escape t ≡ x → x ≡ false
    go true e = sym (sym (legal_quoteless t e) ∙ h)
    go false e = refl

-- what stands between the marks
pub argument_by_inner : (t : List ℕ) → argument_by (walk (standard_step false quote) 0 t) ≡ (if legal_escape t then t else [])
argument_by_inner t = go (has quote t) refl
  where
    go : (x : Bool) → has quote t ≡ x → argument_by (walk (standard_step false quote) 0 t) ≡ (if legal_escape t then t else [])
    go false h = let p = quoteless t h in rw (p.0, p.1)
    go true h = rw (illegal t h) (none (quoted t h))
      where
        none : (stops (walk (standard_step false quote) 0 t) ≡ true) ⊎ (has quote (value (walk (standard_step false quote) 0 t)) ≡ true)
            → argument_by (walk (standard_step false quote) 0 t) ≡ []
        none (inl s) = rw s
        none (inr v) = rw (illegal (value (walk (standard_step false quote) 0 t)) v, and-false (not (stops (walk (standard_step false quote) 0 t))))

pub argument_inner : (a : List ℕ) → argument a ≡ (if encloses 0 quote a && legal_escape (part 1 (length a - 1) a) then part 1 (length a - 1) a else [])
unfolding argument
argument_inner a = go (encloses 0 quote a)
  where
    go : (x : Bool) → (if x then argument_by (walk (standard_step false quote) 0 (part 1 (length a - 1) a)) else [])
        ≡ (if x && legal_escape (part 1 (length a - 1) a) then part 1 (length a - 1) a else [])
    go true = argument_by_inner (part 1 (length a - 1) a)
    go false = refl
