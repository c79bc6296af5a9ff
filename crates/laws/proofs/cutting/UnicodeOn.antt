-- The same with the setting on, of a U& text without a UESCAPE clause; one with a clause is a hypothesis here. Assumes nothing.
use mathlib.Core.Path.{◌≡◌, refl, ap, sym, ◌∙◌, subst}
use mathlib.Core.Bool.{Bool, true, false}
use mathlib.Core.List.{List, [], ◌∷◌, ◌++◌}
use Prim.Native.Nat.{ℕ, suc, ◌+◌, ◌-◌, ◌<◌}
use native.Mathlib.Nat.{zero-add}
use native.Mathlib.Omega.{arith}
use lib.Dec.{eqb}
use borrow.Author.Tests.{eqb-true}
use lib.ListN.{length, take, drop, length-take, take-append-drop}
use Rattle.meaning.specs.declared.Settings.{Settings}
use Rattle.meaning.specs.Bytes.{◌!◌, is_mark, quote, backslash, part}
use Rattle.std.specs.Prelude.{if◌then◌else◌}
use Rattle.meaning.specs.Walk.{Step, keep, give, stop, Trace, ended, stopped, after, walk, size, stops}
use Rattle.meaning.specs.Steps.{closing_step, doubled, unicode_step, trim}
use Rattle.meaning.specs.Cutting.{complete, cut}
use Rattle.meaning.specs.Spelling.{is_unicode, unicode_spelling, closed_unicode, unicode_by, chosen}
use Rattle.meaning.specs.Reading.{read, written, meaning, means, value_of, answer, read_as}
use Rattle.laws.proofs.basics.Tests.{true→T}
use Rattle.laws.proofs.walking.Walks.{walk_append, size_graft, exact_ends, stop_at, stops_inside}
use Rattle.laws.proofs.writing.Written.{closing_local}
use Rattle.laws.proofs.cutting.BodyStops.{stops_fails}
use Rattle.laws.proofs.cutting.UnicodePassed.{passes}
use Rattle.laws.proofs.cutting.UnicodeOff.{closes_u}
use Rattle.laws.proofs.joining.Joining.{fails≢means}
use Rattle.laws.proofs.joining.Ready.{UnicodeRefused, joining}

-- WHAT IS LEFT: a text with a UESCAPE clause, read as one with the setting on, does not cut completely
abbrev pub ClauseRefused : Settings → Type 0
ClauseRefused σ = (b : ℕ) (t : List ℕ) → is_unicode quote (b ∷ t) ≡ true → stops (cut σ (b ∷ t)) ≡ false
    → stops (walk (closing_step false quote) 0 (drop 2 t)) ≡ true
    → (y : ℕ) (z : List ℕ) → trim (drop (4 + size (walk (closing_step false quote) 0 (drop 2 t))) (b ∷ t)) ≡ y ∷ z
    → (c : ℕ) (e : List ℕ) → chosen (y ∷ z) ≡ c ∷ e → ⊥

-- a mark that is not doubled
pub lone_mark : (h : Bool) (d : ℕ) (r : List ℕ) → closing_step false quote (d ∷ r) ≡ stop → (d ≡ quote) × (closing_step true quote (d ∷ r) ≡ stop)
unfolding doubled
lone_mark h d r e = go (eqb d quote) (eqb (r ! 0) quote) refl refl e
  where
    no_step : (s : Step) → s ≡ stop → stops (after s 0 (λ n. ended)) ≡ true
    no_step s e = rw e

    go : (x y : Bool) → eqb d quote ≡ x → eqb (r ! 0) quote ≡ y → (if x then (if y then give 1 (quote ∷ []) else stop) else keep) ≡ stop
        → (d ≡ quote) × (closing_step true quote (d ∷ r) ≡ stop)
    go true true ex ey g = absurd (true→T false (no_step (give 1 (quote ∷ [])) g))
    go true false ex ey g =
        let q : d ≡ quote = eqb-true d quote ex in
        (q, subst (λ (k : ℕ). closing_step true quote (k ∷ r) ≡ stop) (sym q) (rw ey))
    go false y ex ey g = absurd (true→T false (no_step keep g))

-- the backslash as escape character: both searches close at one place
same_close : (u : List ℕ) → stops (walk (closing_step false quote) 0 u) ≡ true
    → stops (walk (unicode_step (backslash ∷ []) quote) 0 (take (size (walk (closing_step false quote) 0 u)) u)) ≡ false
    → size (walk (closing_step true quote) 0 u) ≡ size (walk (closing_step false quote) 0 u)
same_close u st rd =
    let m : ℕ = size (walk (closing_step false quote) 0 u) in
    let i = stops_inside (closing_step false quote) 0 u (true→T _ st) in
    let p = stop_at (closing_step false quote) 0 u (true→T _ st) m (zero-add m) in
    let l = lone_mark true p.0 p.1 p.3 in
    let x = passes 0 0 (take m u) tt rd in
    let w : walk (closing_step true quote) 0 (p.0 ∷ p.1) ≡ stopped = rw l.1 in
    let d : take m u ++ (p.0 ∷ p.1) ≡ u = ap (take m u ++◌) (sym p.2) ∙ take-append-drop m u in
    let k = walk_append (closing_step true quote) (p.0 ∷ p.1) (closing_local true quote (p.0 ∷ p.1) refl) 0 (take m u) x in
    let g = size_graft (walk (closing_step true quote) 0 (take m u)) (walk (closing_step true quote) 0 (p.0 ∷ p.1))
    (exact_ends (closing_step true quote) 0 (take m u) x) in
    ap (λ (v : List ℕ). size (walk (closing_step true quote) 0 v)) (sym d) ∙ ap size k ∙ g
    ∙ ap (λ (r : Trace). size (walk (closing_step true quote) 0 (take m u)) + size r) w
    ∙ omega (arith, length-take m u)

part_take : (b : ℕ) (t : List ℕ) (m : ℕ) → part 3 (3 + m) (b ∷ t) ≡ take m (drop 2 t)
part_take b t m = let e : 3 + m - 3 ≡ m = omega arith in rw e

pub refused_on : (σ : Settings) → σ.backslash ≡ true → ClauseRefused σ → UnicodeRefused σ
unfolding unicode_spelling
refused_on σ on clause b t e seg full c x d m o k v u h = go (stops (walk (closing_step false quote) 0 (drop 2 t))) refl (rw u at h)
  where
    n : ℕ
    n = size (walk (closing_step false quote) 0 (drop 2 t))

    by_default : stops (walk (closing_step false quote) 0 (drop 2 t)) ≡ true → trim (drop (4 + n) (b ∷ t)) ≡ []
        → (y : Bool) → stops (walk (unicode_step (backslash ∷ []) quote) 0 (part 3 (3 + n) (b ∷ t))) ≡ y
        → value_of (b ∷ t) (answer 3 (3 + n) (walk (unicode_step (backslash ∷ []) quote) 0 (part 3 (3 + n) (b ∷ t)))) ≡ means v → ⊥
    by_default st z true q g = stops_fails (b ∷ t) 3 (3 + n) (walk (unicode_step (backslash ∷ []) quote) 0 (part 3 (3 + n) (b ∷ t))) v (true→T _ q) g
    by_default st z false q g =
        let s = same_close (drop 2 t) st (rw (part_take b t n) at q) in
        let p = (rw on at (closes_u σ b t u e seg)).1 in
        let i : 4 + n ≡ suc e = omega arith in
        let f : [] ≡ c ∷ x = sym z ∙ ap (λ (j : ℕ). trim (drop j (b ∷ t))) i ∙ d in
        let j : ◌≡◌ {A = ℕ} 0 1 = cc in omega arith

    clauses : stops (walk (closing_step false quote) 0 (drop 2 t)) ≡ true → (y : List ℕ) → trim (drop (4 + n) (b ∷ t)) ≡ y
        → (a : List ℕ) → chosen y ≡ a → value_of (b ∷ t) (read_as σ (b ∷ t) (unicode_by a (3 + n))) ≡ means v → ⊥
    clauses st [] z a q g =
        by_default st z (stops (walk (unicode_step (backslash ∷ []) quote) 0 (part 3 (3 + n) (b ∷ t)))) refl
        (subst (λ (a : List ℕ). value_of (b ∷ t) (read_as σ (b ∷ t) (unicode_by a (3 + n))) ≡ means v) (sym q) g)
    clauses st (y ∷ z) w [] q g = fails≢means 0 v g
    clauses st (y ∷ z) w (a ∷ as') q g = clause b t u full st y z w a as' q

    go : (y : Bool) → stops (walk (closing_step false quote) 0 (drop 2 t)) ≡ y
        → value_of (b ∷ t) (read_as σ (b ∷ t) (closed_unicode (b ∷ t) (walk (closing_step false quote) 0 (drop 2 t)))) ≡ means v → ⊥
    go false st g = fails≢means 0 v (rw st at g)
    go true st g =
        clauses st (trim (drop (4 + n) (b ∷ t))) refl (chosen (trim (drop (4 + n) (b ∷ t)))) refl (rw st at g)

-- THE LAW with the setting on, given what is left
pub joining_on : (σ : Settings) → σ.backslash ≡ true → ClauseRefused σ → (A G B v w : List ℕ)
    → complete σ A ≡ true → meaning σ A ≡ means v
    → complete σ B ≡ true → meaning σ B ≡ means w → is_mark (B ! 0) ≡ true
    → Rattle.laws.proofs.joining.Joining.White G → 0 < length G
    → read σ (A ++ (G ++ B)) ≡ written (v ++ w)
joining_on σ on left = joining σ (refused_on σ on left)
