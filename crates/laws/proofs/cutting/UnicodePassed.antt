-- What a unit of U& is behind its backslash; so a U& body that reads well by the backslash is passed whole by the search for its mark with the setting on. Assumes nothing.
use mathlib.Core.Logic.{◌⊎◌, inl, inr}
use mathlib.Core.Path.{◌≡◌, refl, ap, sym, ◌∙◌, subst}
use mathlib.Core.Bool.{Bool, true, false, ◌&&◌}
use mathlib.Core.List.{List, [], ◌∷◌}
use Prim.Native.Nat.{ℕ, zero, suc, ◌+◌}
use Prim.Native.Char.{code}
use native.Mathlib.Omega.{arith}
use lib.Dec.{eqb}
use borrow.Author.Tests.{eqb-true}
use lib.ListN.{length, drop}
use Rattle.meaning.specs.Bytes.{◌!◌, quote, backslash, within, digits, number, starts}
use Rattle.std.specs.Prelude.{if◌then◌else◌}
use Rattle.meaning.specs.Chars.{encode}
use Rattle.meaning.specs.Walk.{Step, keep, give, stop, after, walk, size, stops}
use Rattle.meaning.specs.Steps.{may_escape, closing_step, doubled, scalar_by, uescaped, low_half, pair, unicode_step}
use Rattle.laws.proofs.basics.Tests.{true→T, eqb_sym, and_left}
use Rattle.laws.proofs.cutting.EscapeStops.{Tame, Ahead, digits_tame}

abbrev pub Pass : ℕ → ℕ → List ℕ → Type 0
Pass zero zero u = Unit {0}
Pass (suc i) zero u = ⊥
Pass i (suc j) [] = ⊥
Pass zero (suc j) (b ∷ u) = (Tame b × Pass zero j u) ⊎ ((eqb b backslash ≡ true) × Pass 1 j u)
Pass (suc i) (suc j) (b ∷ u) = Pass i j u

tame_pass : (j : ℕ) (u : List ℕ) → Ahead zero j u → Pass zero j u
tame_pass zero u a = tt
tame_pass (suc j) [] a = a
tame_pass (suc j) (b ∷ u) a = inl (a.0, tame_pass j u a.1)

pass_on : (i j k : ℕ) (u : List ℕ) → Pass i j u → Pass zero k (drop j u) → Pass i (j + k) u
pass_on zero zero k u p q = let e : k ≡ 0 + k = omega arith in subst (λ (m : ℕ). Pass zero m u) e q
pass_on (suc i) zero k u p q = absurd p
pass_on i (suc j) k [] p q = absurd p
pass_on zero (suc j) k (b ∷ u) p q =
    let e : suc (j + k) ≡ suc j + k = omega arith in
    subst (λ (m : ℕ). Pass zero m (b ∷ u)) e (go p (λ i r. pass_on i j k u r q))
  where
    go : (Tame b × Pass zero j u) ⊎ ((eqb b backslash ≡ true) × Pass 1 j u) → ((i : ℕ) → Pass i j u → Pass i (j + k) u) → Pass zero (suc (j + k)) (b ∷ u)
    go (inl r) ih = inl (r.0, ih 0 r.1)
    go (inr r) ih = inr (r.0, ih 1 r.1)
pass_on (suc i) (suc j) k (b ∷ u) p q = let e : suc (j + k) ≡ suc j + k = omega arith in subst (λ (m : ℕ). Pass (suc i) m (b ∷ u)) e (pass_on i j k u p q)

-- k bytes behind a backslash, the first no mark and the others tame
abbrev pub Quiet : List ℕ → ℕ → Type 0
Quiet [] k = ⊥
Quiet (c ∷ u) zero = ⊥
Quiet (c ∷ u) (suc k) = (eqb c quote ≡ false) × Ahead zero k u

quiet_pass : (u : List ℕ) (k : ℕ) → Quiet u k → Pass 1 k u
quiet_pass [] k q = absurd q
quiet_pass (c ∷ u) zero q = absurd q
quiet_pass (c ∷ u) (suc k) q = tame_pass k u q.1

tame_quiet : (u : List ℕ) (k : ℕ) → Ahead zero (suc k) u → Quiet u (suc k)
tame_quiet [] k a = a
tame_quiet (c ∷ u) k a = (a.0.1, a.1)

-- w hex digits are tame
hex_tame : (w : ℕ) (u : List ℕ) → eqb (digits 16 w u) w ≡ true → Ahead zero w u
hex_tame w u h = subst (λ (j : ℕ). Ahead zero j u) (eqb-true (digits 16 w u) w h) (digits_tame 16 w u refl)

-- WHAT FOLLOWS A BACKSLASH stops, or is k quiet bytes; or four of them, a backslash and four more
pub data Behind (u : List ℕ) : ℕ → Type 0 where
  once : (k : ℕ) → Quiet u k → Behind u k
  twice : Quiet u 4 → (w : List ℕ) → drop 4 u ≡ backslash ∷ w → Quiet w 4 → Behind u 9

abbrev pub Follows : Step → List ℕ → Type 0
Follows keep u = ⊥
Follows (give k out) u = Behind u k
Follows stop u = Unit {0}

-- so it is passed
behind_pass : {u : List ℕ} {k : ℕ} → Behind u k → Pass 1 k u
behind_pass {u} (once k q) = quiet_pass u k q
behind_pass {u} (twice q w e r) = pass_on 1 4 5 u (quiet_pass u 4 q) (rw e (inr (refl, quiet_pass w 4 r)))

scalar_follows : (w k : ℕ) (t u : List ℕ) → (Ahead zero w t → Quiet u k) → Follows (scalar_by w k t) u
unfolding scalar_by
scalar_follows w k t u f = go (eqb (digits 16 w t) w) (may_escape (number 16 w 0 t)) refl
  where
    go : (x y : Bool) → eqb (digits 16 w t) w ≡ x → Follows (if x && y then give k (encode (number 16 w 0 t)) else stop) u
    go true true e = once k (f (hex_tame w t e))
    go true false e = tt
    go false y e = tt

starts_esc : (u : List ℕ) → starts (backslash ∷ []) u ≡ true → (w : List ℕ) × (u ≡ backslash ∷ w)
starts_esc [] h = absurd (true→T false h)
starts_esc (c ∷ w) h = (w, ap (◌∷ w) (sym (eqb-true backslash c (and_left (eqb backslash c) true h))))

low_follows : (h : ℕ) (u : List ℕ) → Quiet u 4 → Follows (low_half (backslash ∷ []) h (drop 4 u)) u
unfolding low_half
low_follows h u p =
    go (starts (backslash ∷ []) (drop 4 u)) (eqb (digits 16 4 (drop 1 (drop 4 u))) 4) (within 0xDC00 0xDFFF (number 16 4 0 (drop 1 (drop 4 u)))) refl refl
  where
    go : (x y z : Bool) → starts (backslash ∷ []) (drop 4 u) ≡ x → eqb (digits 16 4 (drop 1 (drop 4 u))) 4 ≡ y
        → Follows (if x && y && z then give 9 (encode (pair h (number 16 4 0 (drop 1 (drop 4 u))))) else stop) u
    go true true true ex ey =
        let s = starts_esc (drop 4 u) ex in
        twice p s.0 s.1 (tame_quiet s.0 3 (hex_tame 4 s.0 (subst (λ (w : List ℕ). eqb (digits 16 4 (drop 1 w)) 4 ≡ true) s.1 ey)))
    go true true false ex ey = tt
    go true false z ex ey = tt
    go false y z ex ey = tt

plus_follows : (u : List ℕ) → eqb (u ! 0) (code "+") ≡ true → Follows (scalar_by 6 7 (drop 1 u)) u
plus_follows [] h = absurd (true→T false h)
plus_follows (c ∷ w) h = scalar_follows 6 7 w (c ∷ w) (λ a. (ap (λ (x : ℕ). eqb x quote) (eqb-true c (code "+") h), a))

pub uescaped_follows : (u : List ℕ) → Follows (uescaped (backslash ∷ []) u) u
unfolding uescaped
uescaped_follows u =
    go (starts (backslash ∷ []) u) (eqb (u ! 0) (code "+")) (eqb (digits 16 4 u) 4) (within 0xD800 0xDBFF (number 16 4 0 u)) refl refl refl
  where
    go : (x y z w : Bool) → starts (backslash ∷ []) u ≡ x → eqb (u ! 0) (code "+") ≡ y → eqb (digits 16 4 u) 4 ≡ z
        → Follows (if x then give 1 (backslash ∷ [])
        else if y then scalar_by 6 7 (drop 1 u)
        else if z && w then low_half (backslash ∷ []) (number 16 4 0 u) (drop 4 u)
        else scalar_by 4 4 u) u
    go true y z w ex ey ez = let s = starts_esc u ex in once 1 (rw s.1 (refl, tt))
    go false true z w ex ey ez = plus_follows u ey
    go false false true true ex ey ez = low_follows (number 16 4 0 u) u (tame_quiet u 3 (hex_tame 4 u ez))
    go false false true false ex ey ez = scalar_follows 4 4 u u (tame_quiet u 3)
    go false false false w ex ey ez = scalar_follows 4 4 u u (tame_quiet u 3)

pub passes : (i j : ℕ) (u : List ℕ) → Pass i j u → stops (walk (unicode_step (backslash ∷ []) quote) j u) ≡ false
    → i + size (walk (closing_step true quote) i u) ≡ length u
unfolding doubled
passes zero zero [] p h = refl
passes (suc i) zero [] p h = absurd p
passes i (suc j) [] p h = absurd p
passes (suc i) zero (b ∷ u) p h = absurd p
passes (suc i) (suc j) (b ∷ u) p h = let r = passes i j u p h in omega arith
passes zero (suc j) (b ∷ u) p h = go p (λ i q. passes i j u q h)
  where
    go : (Tame b × Pass zero j u) ⊎ ((eqb b backslash ≡ true) × Pass 1 j u)
        → ((i : ℕ) → Pass i j u → i + size (walk (closing_step true quote) i u) ≡ length u)
        → 0 + size (walk (closing_step true quote) 0 (b ∷ u)) ≡ suc (length u)
    go (inl r) ih = rw (r.0.0, r.0.1) (let z = ih 0 r.1 in omega arith)
    go (inr r) ih = rw r.0 (let z = ih 1 r.1 in omega arith)
passes zero zero (b ∷ u) p h = go (eqb b quote) (eqb b backslash) (eqb (u ! 0) quote) refl refl refl h (λ i j. passes i j u)
  where
    quoted : (u : List ℕ) → eqb (u ! 0) quote ≡ true → Pass 1 1 u
    quoted [] e = absurd (true→T false e)
    quoted (c ∷ u) e = tt

    esc_case : (s : Step) → Follows s u → stops (after s b (λ n. walk (unicode_step (backslash ∷ []) quote) n u)) ≡ false
        → ((i j : ℕ) → Pass i j u → stops (walk (unicode_step (backslash ∷ []) quote) j u) ≡ false → i + size (walk (closing_step true quote) i u) ≡ length u)
        → 1 + size (walk (closing_step true quote) 1 u) ≡ length u
    esc_case keep q g ih = absurd q
    esc_case (give k out) q g ih = ih 1 k (behind_pass q) g
    esc_case stop q g ih = absurd (true→T false (sym g))

    go : (x y z : Bool) → eqb b quote ≡ x → eqb b backslash ≡ y → eqb (u ! 0) quote ≡ z
        → stops (walk (unicode_step (backslash ∷ []) quote) 0 (b ∷ u)) ≡ false
        → ((i j : ℕ) → Pass i j u → stops (walk (unicode_step (backslash ∷ []) quote) j u) ≡ false → i + size (walk (closing_step true quote) i u) ≡ length u)
        → 0 + size (walk (closing_step true quote) 0 (b ∷ u)) ≡ suc (length u)
    go true true z ex ey ez g ih =
        absurd (true→T false (sym (sym ey ∙ ap (λ (k : ℕ). eqb k backslash) (eqb-true b quote ex))))
    go true false true ex ey ez g ih =
        let g' : stops (walk (unicode_step (backslash ∷ []) quote) 1 u) ≡ false = rw (ex, ez) at g in
        let r = ih 1 1 (quoted u ez) g' in rw (ey, ex, ez) (omega arith)
    go true false false ex ey ez g ih =
        let g' : true ≡ false = rw (ex, ez) at g in absurd (true→T false (sym g'))
    go false true z ex ey ez g ih =
        let e' : eqb backslash b ≡ true = eqb_sym backslash b ∙ ey in
        let g' : stops (after (uescaped (backslash ∷ []) u) b (λ n. walk (unicode_step (backslash ∷ []) quote) n u)) ≡ false = rw (ex, e') at g in
        let r = esc_case (uescaped (backslash ∷ []) u) (uescaped_follows u) g' ih in rw ey (omega arith)
    go false false z ex ey ez g ih =
        let e' : eqb backslash b ≡ false = eqb_sym backslash b ∙ ey in
        let g' : stops (walk (unicode_step (backslash ∷ []) quote) 0 u) ≡ false = rw (ex, e') at g in
        let r = ih 0 0 tt g' in rw (ey, ex) (omega arith)
