-- What a family's walk takes, the search for its closing mark passes: so a lone mark that the walk comes to is the closing mark. Assumes nothing.
use mathlib.Core.Path.{◌≡◌, refl, ap, sym, ◌∙◌, subst}
use mathlib.Core.Bool.{Bool, true, false, ◌&&◌, and-false, false≢true}
use mathlib.Core.List.{List, [], ◌∷◌}
use Prim.Native.Nat.{ℕ, zero, suc, ◌+◌, ◌<◌}
use native.Mathlib.Nat.{add-zero}
use native.Mathlib.Omega.{arith}
use lib.Dec.{eqb}
use borrow.Author.Tests.{eqb-true}
use lib.ListN.{length, drop, length-drop}
use lib.Seq.{drop-cons, get_or-drop}
use Rattle.meaning.specs.Bytes.{◌!◌, quote, backslash}
use Rattle.std.specs.Prelude.{if◌then◌else◌}
use Rattle.meaning.specs.Walk.{Step, keep, give, stop, Trace, ended, stopped, kept, gave, walk, size, stops}
use Rattle.meaning.specs.Steps.{doubled, mysql, standard_step, escaped, escape_step, uescaped, unicode_step, closing_step}
use Rattle.laws.proofs.basics.Tests.{eqb_same, eqb_sym}
use Rattle.laws.proofs.walking.Walks.{walk_drop, graft, first_is, Inside}
use Rattle.laws.proofs.walking.Courses.{SoFar, so_far_none, so_far_keep, so_far_give, so_far_append, stops_here, size_here, taken}
use Rattle.laws.proofs.walking.Fores.{mysql_gives}
use Rattle.laws.proofs.cutting.EscapeStops.{Ahead, Hidden, escaped_hidden}
use Rattle.laws.proofs.cutting.UnicodePassed.{Quiet, Behind, once, twice, Follows, uescaped_follows}

-- whatever one walk takes, another passes, unit by unit, where the unit ends before the text does
abbrev pub Passes : (List ℕ → Step) → (List ℕ → Step) → Type 0
Passes step other = (b : ℕ) (t : List ℕ) → Inside (step (b ∷ t)) (length t) → taken (step (b ∷ t)) < suc (length t) → SoFar other (b ∷ t) (taken (step (b ∷ t)))

-- so it passes a course of such units
module _ (step other : List ℕ → Step) (p : Passes step other) where
  further : (b : ℕ) (t : List ℕ) (u : Step) (j k : ℕ) → step (b ∷ t) ≡ u → Inside u (length t) → taken u + j ≡ k → k < suc (length t)
      → SoFar other (drop (taken u) (b ∷ t)) j → SoFar other (b ∷ t) k
  further b t u j k f i e h r = subst (SoFar other (b ∷ t)) e (so_far_append (rw f at (p b t (rw f i) (rw f (omega arith)))) j r)

  over : (c : Trace) (l : List ℕ) (k : ℕ) (q : Trace) → stops c ≡ false → size c ≡ k → walk step 0 l ≡ graft c q → k < length l → SoFar other l k
  over ended l k q g e w h = subst (SoFar other l) e (so_far_none other l)
  over stopped l k q g e w h = absurd (false≢true (sym g))
  over (kept a c) [] k q g e w h = absurd (omega arith)
  over (gave n out c) [] k q g e w h = absurd (omega arith)
  over (kept a c) (b ∷ t) k q g e w h =
      let f : step (b ∷ t) ≡ keep = first_is step b t (kept a (graft c q)) w in
      let v : kept b (walk step 0 t) ≡ kept a (graft c q) = rw f at w in
      further b t keep (size c) k f tt (omega arith) h (over c t (size c) q g refl (cc) (omega arith))
  over (gave n out c) (b ∷ t) k q g e w h =
      let f : step (b ∷ t) ≡ give n out = first_is step b t (gave n out (graft c q)) w in
      let v : gave n out (walk step n t) ≡ gave n out (graft c q) = rw f at w in
      let v' : walk step n t ≡ graft c q = cc in
      further b t (give n out) (size c) k f (omega arith) (omega arith) h
      (over c (drop n t) (size c) q g refl (sym (walk_drop step n t) ∙ v') (omega (arith, length-drop n t)))

  pub passes_so_far : (l : List ℕ) (k : ℕ) → SoFar step l k → k < length l → SoFar other l k
  passes_so_far l k s h = over s.course l k (walk step 0 (drop k l)) s.goes s.place s.rest h

-- a unit
unit_so_far : (step : List ℕ → Step) (b : ℕ) (t : List ℕ) (u : Step) → step (b ∷ t) ≡ u → Inside u (length t) → SoFar step (b ∷ t) (taken u)
unit_so_far step b t keep e i = so_far_keep (so_far_none step (b ∷ t)) (omega arith) e
unit_so_far step b t (give k out) e i = so_far_give (so_far_none step (b ∷ t)) k out (suc k) (omega arith) e (omega arith)
unit_so_far step b t stop e i = absurd i

-- STANDARD
pub standard_passes : (bs : Bool) (q : ℕ) → Passes (standard_step bs q) (closing_step bs q)
standard_passes bs q b t i h = go t (bs && eqb b backslash) (eqb b q) refl refl i h
  where
    go : (t : List ℕ) (x y : Bool) → (bs && eqb b backslash) ≡ x → eqb b q ≡ y → Inside (if x then mysql t else if y then doubled q t else keep) (length t)
        → taken (if x then mysql t else if y then doubled q t else keep) < suc (length t)
        → SoFar (closing_step bs q) (b ∷ t) (taken (if x then mysql t else if y then doubled q t else keep))
    go [] true y ex ey i h = absurd (omega arith)
    go (c ∷ t) true y ex ey i h = rw (mysql_gives c t).1 (unit_so_far (closing_step bs q) b (c ∷ t) (give 1 []) (rw ex) (omega arith))
    go t false true ex ey i h = unit_so_far (closing_step bs q) b t (doubled q t) (rw (ex, ey)) i
    go t false false ex ey i h = unit_so_far (closing_step bs q) b t keep (rw (ex, ey)) tt

-- E. Tame bytes stand for themselves
tame_so_far : (h : Bool) (k : ℕ) (u : List ℕ) → Ahead zero k u → SoFar (closing_step h quote) u k
tame_so_far h zero u a = so_far_none (closing_step h quote) u
tame_so_far h (suc k) [] a = absurd a
tame_so_far h (suc k) (b ∷ u) a =
    let z : 1 + k ≡ suc k = omega arith in
    subst (SoFar (closing_step h quote) (b ∷ u)) z
    (so_far_append (unit_so_far (closing_step h quote) b u keep (rw (a.0.0, and-false h, a.0.1)) tt) k (tame_so_far h k u a.1))

-- a backslash, the byte that it hides, and tame bytes
hidden_so_far : (b k : ℕ) (u : List ℕ) → eqb b backslash ≡ true → Ahead 1 k u → SoFar (closing_step true quote) (b ∷ u) (suc k)
hidden_so_far b zero u e a = absurd a
hidden_so_far b (suc k) [] e a = absurd a
hidden_so_far b (suc k) (c ∷ u) e a =
    let z : 2 + k ≡ suc (suc k) = omega arith in
    subst (SoFar (closing_step true quote) (b ∷ c ∷ u)) z
    (so_far_append (unit_so_far (closing_step true quote) b (c ∷ u) (give 1 []) (rw e) (omega arith)) k (tame_so_far true k u a))

pub escape_passes : Passes escape_step (closing_step true quote)
escape_passes b t i h = go (eqb b backslash) (eqb b quote) refl refl i
  where
    hidden : (s : Step) → eqb b backslash ≡ true → Hidden s t → SoFar (closing_step true quote) (b ∷ t) (taken s)
    hidden keep e p = absurd p
    hidden (give k out) e p = hidden_so_far b k t e p
    hidden stop e p = so_far_none (closing_step true quote) (b ∷ t)

    go : (x y : Bool) → eqb b backslash ≡ x → eqb b quote ≡ y → Inside (if x then escaped t else if y then doubled quote t else keep) (length t)
        → SoFar (closing_step true quote) (b ∷ t) (taken (if x then escaped t else if y then doubled quote t else keep))
    go true y ex ey i = hidden (escaped t) ex (escaped_hidden t)
    go false true ex ey i = unit_so_far (closing_step true quote) b t (doubled quote t) (rw (ex, ey)) i
    go false false ex ey i = unit_so_far (closing_step true quote) b t keep (rw (ex, ey)) tt

-- U&, whether a backslash hides or not
quiet_so_far : (h : Bool) (b k : ℕ) (u : List ℕ) → eqb b backslash ≡ true → Quiet u k → SoFar (closing_step h quote) (b ∷ u) (suc k)
quiet_so_far h b k [] e q = absurd q
quiet_so_far h b zero (c ∷ u) e q = absurd q
quiet_so_far true b (suc k) (c ∷ u) e q = hidden_so_far b (suc k) (c ∷ u) e q.1
quiet_so_far false b (suc k) (c ∷ u) e q =
    let n : eqb b quote ≡ false = ap (λ (x : ℕ). eqb x quote) (eqb-true b backslash e) in
    let z : 2 + k ≡ suc (suc k) = omega arith in
    subst (SoFar (closing_step false quote) (b ∷ c ∷ u)) z
    (so_far_append
    (so_far_append (unit_so_far (closing_step false quote) b (c ∷ u) keep (rw n) tt) 1 (unit_so_far (closing_step false quote) c u keep (rw q.0) tt)) k
    (tame_so_far false k u q.1))

follows_so_far : (h : Bool) (b : ℕ) (t : List ℕ) (s : Step) → eqb b backslash ≡ true → Follows s t → SoFar (closing_step h quote) (b ∷ t) (taken s)
follows_so_far h b t keep e p = absurd p
follows_so_far h b t stop e p = so_far_none (closing_step h quote) (b ∷ t)
follows_so_far h b t (give k out) e p = go p
  where
    go : {k : ℕ} → Behind t k → SoFar (closing_step h quote) (b ∷ t) (suc k)
    go (once k q) = quiet_so_far h b k t e q
    go (twice q w d r) =
        so_far_append (quiet_so_far h b 4 t e q) 5 (subst (λ (u : List ℕ). SoFar (closing_step h quote) u 5) (sym d) (quiet_so_far h backslash 4 w refl r))

pub unicode_passes : (h : Bool) → Passes (unicode_step (backslash ∷ []) quote) (closing_step h quote)
unicode_passes h b t i l = go (eqb b quote) (eqb b backslash) refl refl
  where
    go : (x y : Bool) → eqb b quote ≡ x → eqb b backslash ≡ y → SoFar (closing_step h quote) (b ∷ t) (taken (unicode_step (backslash ∷ []) quote (b ∷ t)))
    go true y ex ey =
        let n : eqb b backslash ≡ false = ap (λ (x : ℕ). eqb x backslash) (eqb-true b quote ex) in
        unit_so_far (closing_step h quote) b t (unicode_step (backslash ∷ []) quote (b ∷ t)) (rw (n, and-false h, ex)) i
    go false true ex ey =
        let s : unicode_step (backslash ∷ []) quote (b ∷ t) ≡ uescaped (backslash ∷ []) t = rw (ex, eqb_sym backslash b ∙ ey) in
        rw s (follows_so_far h b t (uescaped (backslash ∷ []) t) ey (uescaped_follows t))
    go false false ex ey =
        unit_so_far (closing_step h quote) b t (unicode_step (backslash ∷ []) quote (b ∷ t)) (rw (ey, and-false h, ex, eqb_sym backslash b ∙ ey)) i

-- a lone mark where such a walk stands is the closing mark
pub lone_closes : (h : Bool) (q : ℕ) (l : List ℕ) (k : ℕ) → SoFar (closing_step h q) l k → k < length l → l ! k ≡ q → eqb (l ! suc k) q ≡ false
    → (h && eqb q backslash) ≡ false → (stops (walk (closing_step h q) 0 l) ≡ true) × (size (walk (closing_step h q) 0 l) ≡ k)
unfolding doubled
lone_closes h q l k s i m n o =
    let e : closing_step h q (drop k l) ≡ stop = rw (drop-cons l k 0 i, m, o, eqb_same q, get_or-drop (suc k) l 0 0, add-zero (suc k), n) in
    (stops_here s i e, size_here s i e)
