-- A segment cut out of a text is a segment alone. Assumes nothing.
use mathlib.Core.Path.{◌≡◌, refl, ap, sym, subst}
use mathlib.Core.Bool.{Bool, true, false, ◌&&◌}
use mathlib.Core.List.{List, [], ◌∷◌, ◌++◌}
use Prim.Native.Nat.{ℕ, zero, suc, ◌+◌, ◌<◌}
use native.Mathlib.Omega.{arith}
use lib.Dec.{T, eqb}
use lib.ListN.{length, take, drop, length-drop, take-append-drop, get_or-append}
use lib.Seq.{drop-append-le, length-take-le}
use Rattle.meaning.specs.declared.Settings.{Settings}
use Rattle.meaning.specs.Bytes.{◌!◌, backslash, in_name, span}
use Rattle.std.specs.Prelude.{if◌then◌else◌}
use Rattle.meaning.specs.Walk.{Step, keep, give, stop, kept, gave, after, walk, size, stops}
use Rattle.meaning.specs.Steps.{closing_step, doubled}
use Rattle.meaning.specs.Cutting.{opening, named, hides, segment}
use Rattle.laws.proofs.basics.Tests.{true→T}
use Rattle.laws.proofs.walking.Walks.{FitsIn}
use Rattle.laws.proofs.cutting.Openings.{Opens, by_mark, by_letter, by_unicode, by_name, opens, opening_mark, apart_of_mark, mark_0, segment_of_lem, segment_fits}

-- the other way round than LocalIn: what stands inside the text stands there without what follows
abbrev pub Back : (List ℕ → Step) → List ℕ → Type 0
Back step r = (b : ℕ) (t : List ℕ) → FitsIn (step (b ∷ (t ++ r))) (length t) → step (b ∷ t) ≡ step (b ∷ (t ++ r))

pub walk_restrict : (step : List ℕ → Step) (r : List ℕ) → Back step r → (k : ℕ) (t : List ℕ) → T (stops (walk step k (t ++ r)))
    → k + size (walk step k (t ++ r)) < length t → walk step k t ≡ walk step k (t ++ r)
walk_restrict step r l k [] h i = absurd (omega arith)
walk_restrict step r l (suc k) (b ∷ t) h i = walk_restrict step r l k t h (omega arith)
walk_restrict step r l zero (b ∷ t) h i = go (step (b ∷ (t ++ r))) refl h i (λ n. walk_restrict step r l n t)
  where
    go : (s : Step) → step (b ∷ (t ++ r)) ≡ s → T (stops (after s b (λ n. walk step n (t ++ r))))
        → 0 + size (after s b (λ n. walk step n (t ++ r))) < suc (length t)
        → ((n : ℕ) → T (stops (walk step n (t ++ r))) → n + size (walk step n (t ++ r)) < length t → walk step n t ≡ walk step n (t ++ r))
        → walk step 0 (b ∷ t) ≡ walk step 0 (b ∷ (t ++ r))
    go keep e h i ih =
        rw (l b t (subst (λ (s : Step). FitsIn s (length t)) (sym e) tt), e) (ap (kept b) (ih 0 h (omega arith)))
    go (give n out) e h i ih =
        rw (l b t (subst (λ (s : Step). FitsIn s (length t)) (sym e) (omega arith)), e) (ap (gave n out) (ih n h (omega arith)))
    go stop e h i ih = rw (l b t (subst (λ (s : Step). FitsIn s (length t)) (sym e) tt), e)

pub closing_back : (h : Bool) (q : ℕ) (r : List ℕ) → eqb 0 q ≡ false → Back (closing_step h q) r
unfolding doubled
closing_back h q r nz b (c ∷ t) f = refl
closing_back h q r nz b [] f = go (h && eqb b backslash) (eqb b q) (eqb (r ! 0) q) refl refl refl f
  where
    go : (x y z : Bool) → (h && eqb b backslash) ≡ x → eqb b q ≡ y → eqb (r ! 0) q ≡ z
        → FitsIn (if x then give 1 [] else if y then (if z then give 1 (q ∷ []) else stop) else keep) 0
        → closing_step h q (b ∷ []) ≡ closing_step h q (b ∷ r)
    go true y z ex ey ez j = absurd (omega arith)
    go false true true ex ey ez j = absurd (omega arith)
    go false true false ex ey ez j = rw (ex, ey, ez, nz)
    go false false z ex ey ez j = rw (ex, ey)

byte_back : (t r : List ℕ) (i : ℕ) → i < length t → (t ++ r) ! i ≡ t ! i
byte_back t r i h = get_or-append t r 0 i h

span_back : (p : ℕ → Bool) (t r : List ℕ) → span p (t ++ r) < length t → span p t ≡ span p (t ++ r)
span_back p [] r h = absurd (omega arith)
span_back p (b ∷ t) r h = go (p b) refl h (span_back p t r)
  where
    go : (x : Bool) → p b ≡ x → (if x then suc (span p (t ++ r)) else 0) < suc (length t) → (span p (t ++ r) < length t → span p t ≡ span p (t ++ r))
        → span p (b ∷ t) ≡ span p (b ∷ (t ++ r))
    go true e h ih = rw e (ap suc (ih (omega arith)))
    go false e h ih = rw e

pub opening_back : (t r : List ℕ) (n : ℕ) → opening (t ++ r) ≡ suc n → n < length t → opening t ≡ suc n
unfolding named
opening_back [] r n e i = absurd (omega arith)
opening_back (b ∷ t) r n e i = go i (opens b (t ++ r) n e)
  where
    go : {n : ℕ} → n < suc (length t) → Opens b (t ++ r) n → opening (b ∷ t) ≡ suc n
    go i (by_mark m) = rw m
    go i (by_letter m l q) = rw (m, l, ← byte_back t r 0 (omega arith), q)
    go i (by_unicode m l u a q) = rw (m, l, u, ← byte_back t r 0 (omega arith), a, ← byte_back t r 1 (omega arith), q)
    go i (by_name m l u s f k) =
        let h : span in_name (t ++ r) < length t = omega arith in
        rw (m, l, u, s, span_back in_name t r h, ← byte_back t r (span in_name (t ++ r)) h, f, k)

hides_back : (σ : Settings) (t r : List ℕ) → 0 < length t → hides σ (t ++ r) ≡ hides σ t
hides_back σ [] r h = absurd (omega arith)
hides_back σ (b ∷ t) r h = refl

pub segment_back : (σ : Settings) (t r : List ℕ) (e : ℕ) → segment σ (t ++ r) ≡ suc e → length t ≡ suc e → segment σ t ≡ suc e
unfolding segment
segment_back σ t r e h l =
    let s = segment_of_lem σ (t ++ r) e h in
    let n : ℕ = s.0 in
    let k = s.3 in
    let i : n < length t = omega arith in
    let m = opening_mark (t ++ r) n s.1 in
    let b = byte_back t r n i in
    let w = walk_restrict (closing_step (hides σ (t ++ r)) ((t ++ r) ! n)) r
    (closing_back (hides σ (t ++ r)) ((t ++ r) ! n) r (apart_of_mark ((t ++ r) ! n) 0 m mark_0)) 0 (drop (suc n) t)
    (subst (λ (x : List ℕ). T (stops (walk (closing_step (hides σ (t ++ r)) ((t ++ r) ! n)) 0 x))) (drop-append-le (suc n) t r i) (true→T _ s.2))
    (subst (λ (x : List ℕ). 0 + size (walk (closing_step (hides σ (t ++ r)) ((t ++ r) ! n)) 0 x) < length (drop (suc n) t)) (drop-append-le (suc n) t r i)
    (omega (arith, length-drop (suc n) t))) in
    rw (opening_back t r n s.1 i, ← hides_back σ t r (omega arith), ← b, w, ← drop-append-le (suc n) t r i, s.2)
    s.3

pub segment_alone : (σ : Settings) (t : List ℕ) (e : ℕ) → segment σ t ≡ suc e → segment σ (take (suc e) t) ≡ suc e
segment_alone σ t e h =
    segment_back σ (take (suc e) t) (drop (suc e) t) e (rw (take-append-drop (suc e) t) h) (length-take-le (suc e) t (segment_fits σ t e h))
