-- Laws of walks, over every step. Assumes nothing.
use mathlib.Core.Path.{◌≡◌, refl, ap, sym, ◌∙◌, subst}
use mathlib.Core.Bool.{false}
use mathlib.Core.List.{List, [], ◌∷◌, ◌++◌}
use Prim.Native.Nat.{ℕ, zero, suc, ◌+◌, ◌≤◌, ◌<◌}
use native.Mathlib.Nat.{zero-add}
use native.Mathlib.Omega.{arith}
use lib.Dec.{T}
use lib.ListN.{length, drop}
use Rattle.meaning.specs.Walk.{Step, keep, give, stop, Trace, ended, stopped, kept, gave, after, walk, size, stops, plain, value}

-- past a unit's later bytes
pub walk_skip : (step : List ℕ → Step) (u t : List ℕ) → walk step (length u) (u ++ t) ≡ walk step 0 t
walk_skip step [] [] = refl
walk_skip step [] (b ∷ t) = refl
walk_skip step (a ∷ u) t = walk_skip step u t

pub walk_drop : (step : List ℕ → Step) (k : ℕ) (t : List ℕ) → walk step k t ≡ walk step 0 (drop k t)
walk_drop step zero [] = refl
walk_drop step (suc k) [] = refl
walk_drop step zero (b ∷ t) = refl
walk_drop step (suc k) (b ∷ t) = walk_drop step k t

-- LOCAL: what follows a text does not change a walk that stops inside it
abbrev pub Local : (List ℕ → Step) → List ℕ → Type 0
Local step r = (b : ℕ) (t : List ℕ) → step (b ∷ (t ++ r)) ≡ step (b ∷ t)

after_same : (s : Step) (b : ℕ) (f g : ℕ → Trace) → T (stops (after s b f)) → ((n : ℕ) → T (stops (f n)) → g n ≡ f n)
    → after s b g ≡ after s b f
after_same keep b f g h e = ap (kept b) (e 0 h)
after_same (give n out) b f g h e = ap (gave n out) (e n h)
after_same stop b f g h e = refl

pub walk_extend : (step : List ℕ → Step) (r : List ℕ) → Local step r → (k : ℕ) (t : List ℕ) → T (stops (walk step k t))
    → walk step k (t ++ r) ≡ walk step k t
walk_extend step r l zero [] h = absurd h
walk_extend step r l (suc k) [] h = absurd h
walk_extend step r l (suc k) (b ∷ t) h = walk_extend step r l k t h
walk_extend step r l zero (b ∷ t) h =
    rw (l b t) (after_same (step (b ∷ t)) b (λ n. walk step n t) (λ n. walk step n (t ++ r)) h (λ n. walk_extend step r l n t))

-- a plain course is the text itself
pub walk_plain : (step : List ℕ → Step) (t : List ℕ) → T (plain (walk step 0 t)) → value (walk step 0 t) ≡ t
walk_plain step [] h = refl
walk_plain step (b ∷ t) h = go (step (b ∷ t)) h (walk_plain step t)
  where
    go : (s : Step) → T (plain (after s b (λ n. walk step n t))) → (T (plain (walk step 0 t)) → value (walk step 0 t) ≡ t)
        → value (after s b (λ n. walk step n t)) ≡ b ∷ t
    go keep p ih = ap (b ∷◌) (ih p)
    go (give n out) p ih = absurd p
    go stop p ih = absurd p

-- EXACT: units cover a text, and none reaches past its end. Then the walk goes on behind it.
abbrev pub graft : Trace → Trace → Trace
graft ended q = q
graft stopped q = stopped
graft (kept b r) q = kept b (graft r q)
graft (gave n out r) q = gave n out (graft r q)

-- the unit that a course begins with
abbrev pub first : Trace → Step
first ended = stop
first stopped = stop
first (kept b r) = keep
first (gave n out r) = give n out

pub first_is : (step : List ℕ → Step) (b : ℕ) (t : List ℕ) (r : Trace) → walk step 0 (b ∷ t) ≡ r → step (b ∷ t) ≡ first r
first_is step b t r w = sym (go (step (b ∷ t))) ∙ ap first w
  where
    go : (s : Step) → first (after s b (λ n. walk step n t)) ≡ s
    go keep = refl
    go (give n out) = refl
    go stop = refl

abbrev pub Inside : Step → ℕ → Type 0
Inside keep n = Unit {0}
Inside (give k out) n = k ≤ n
Inside stop n = ⊥

abbrev pub LocalIn : (List ℕ → Step) → List ℕ → Type 0
LocalIn step r = (b : ℕ) (t : List ℕ) → Inside (step (b ∷ t)) (length t) → step (b ∷ (t ++ r)) ≡ step (b ∷ t)

pub walk_append : (step : List ℕ → Step) (r : List ℕ) → LocalIn step r → (k : ℕ) (t : List ℕ)
    → k + size (walk step k t) ≡ length t → walk step k (t ++ r) ≡ graft (walk step k t) (walk step 0 r)
walk_append step r l zero [] h = refl
walk_append step r l (suc k) [] h = absurd (omega arith)
walk_append step r l (suc k) (b ∷ t) h = walk_append step r l k t (omega arith)
walk_append step r l zero (b ∷ t) h = go (step (b ∷ t)) refl h (λ n. walk_append step r l n t)
  where
    go : (s : Step) → step (b ∷ t) ≡ s → 0 + size (after s b (λ n. walk step n t)) ≡ suc (length t)
        → ((n : ℕ) → n + size (walk step n t) ≡ length t → walk step n (t ++ r) ≡ graft (walk step n t) (walk step 0 r))
        → walk step 0 (b ∷ (t ++ r)) ≡ graft (after s b (λ n. walk step n t)) (walk step 0 r)
    go keep e g ih = rw (l b t (subst (λ (s : Step). Inside s (length t)) (sym e) tt) ∙ e) (ap (kept b) (ih 0 (omega arith)))
    go (give n out) e g ih =
        rw (l b t (subst (λ (s : Step). Inside s (length t)) (sym e) (omega arith)) ∙ e) (ap (gave n out) (ih n (omega arith)))
    go stop e g ih = absurd (omega arith)

abbrev pub Exact : (List ℕ → Step) → List ℕ → Type 0
Exact step t = size (walk step 0 t) ≡ length t

pub size_graft : (r q : Trace) → stops r ≡ false → size (graft r q) ≡ size r + size q
size_graft ended q h = sym (zero-add (size q))
size_graft stopped q h = absurd (subst T h tt)
size_graft (kept b r) q h = ap suc (size_graft r q h) ∙ omega arith
size_graft (gave n out r) q h = ap (λ (m : ℕ). suc (n + m)) (size_graft r q h) ∙ omega arith

pub stops_graft : (r q : Trace) → stops r ≡ false → stops (graft r q) ≡ stops q
stops_graft ended q h = refl
stops_graft stopped q h = absurd (subst T h tt)
stops_graft (kept b r) q h = stops_graft r q h
stops_graft (gave n out r) q h = stops_graft r q h

-- a walk that takes all of a text has not stopped
pub exact_ends : (step : List ℕ → Step) (k : ℕ) (t : List ℕ) → k + size (walk step k t) ≡ length t → stops (walk step k t) ≡ false
exact_ends step zero [] h = refl
exact_ends step (suc k) [] h = refl
exact_ends step (suc k) (b ∷ t) h = exact_ends step k t (omega arith)
exact_ends step zero (b ∷ t) h = go (step (b ∷ t)) h (λ n. exact_ends step n t)
  where
    go : (s : Step) → 0 + size (after s b (λ n. walk step n t)) ≡ suc (length t)
        → ((n : ℕ) → n + size (walk step n t) ≡ length t → stops (walk step n t) ≡ false) → stops (after s b (λ n. walk step n t)) ≡ false
    go keep g ih = ih 0 (omega arith)
    go (give n out) g ih = ih n (omega arith)
    go stop g ih = absurd (omega arith)

pub exact_append : (step : List ℕ → Step) (u t : List ℕ) → LocalIn step t → Exact step u → Exact step t → Exact step (u ++ t)
exact_append step u t l hu ht =
    rw (walk_append step t l 0 u (zero-add (size (walk step 0 u)) ∙ hu), lib.ListN.length-append)
    (size_graft (walk step 0 u) (walk step 0 t) (exact_ends step 0 u (zero-add (size (walk step 0 u)) ∙ hu)) ∙ omega arith)

-- a walk that stops has not taken all of the text
pub stops_inside : (step : List ℕ → Step) (k : ℕ) (t : List ℕ) → T (stops (walk step k t)) → k + size (walk step k t) < length t
stops_inside step zero [] h = absurd h
stops_inside step (suc k) [] h = absurd h
stops_inside step (suc k) (b ∷ t) h = let r = stops_inside step k t h in omega arith
stops_inside step zero (b ∷ t) h = go (step (b ∷ t)) h (λ n. stops_inside step n t)
  where
    go : (s : Step) → T (stops (after s b (λ n. walk step n t)))
        → ((n : ℕ) → T (stops (walk step n t)) → n + size (walk step n t) < length t)
        → 0 + size (after s b (λ n. walk step n t)) < suc (length t)
    go keep g ih = let r = ih 0 g in omega arith
    go (give n out) g ih = let r = ih n g in omega arith
    go stop g ih = omega arith

-- FITS: no unit reaches past the end
abbrev pub FitsIn : Step → ℕ → Type 0
FitsIn keep n = Unit {0}
FitsIn (give k out) n = k ≤ n
FitsIn stop n = Unit {0}

abbrev pub Fits : (List ℕ → Step) → Type 0
Fits step = (b : ℕ) (t : List ℕ) → FitsIn (step (b ∷ t)) (length t)

pub fits_size : (step : List ℕ → Step) → Fits step → (k : ℕ) (t : List ℕ) → k ≤ length t → k + size (walk step k t) ≤ length t
fits_size step f zero [] h = omega arith
fits_size step f (suc k) [] h = absurd (omega arith)
fits_size step f (suc k) (b ∷ t) h = let r = fits_size step f k t (omega arith) in omega arith
fits_size step f zero (b ∷ t) h = go (step (b ∷ t)) (f b t) (λ n. fits_size step f n t)
  where
    go : (s : Step) → FitsIn s (length t) → ((n : ℕ) → n ≤ length t → n + size (walk step n t) ≤ length t)
        → 0 + size (after s b (λ n. walk step n t)) ≤ suc (length t)
    go keep g ih = let r = ih 0 (omega arith) in omega arith
    go (give n out) g ih = let r = ih n g in omega arith
    go stop g ih = omega arith

-- a walk that stops inside a text stops there too if more follows, where that place still stops it
pub walk_part : (step : List ℕ → Step) (r : List ℕ) → LocalIn step r → (k : ℕ) (t : List ℕ) (m : ℕ) → k + size (walk step k t) ≡ m
    → m < length t → step (drop m t ++ r) ≡ stop → size (walk step k (t ++ r)) ≡ size (walk step k t)
walk_part step r l zero [] m e h s = absurd (omega arith)
walk_part step r l (suc k) [] m e h s = absurd (omega arith)
walk_part step r l (suc k) (b ∷ t) zero e h s = absurd (omega arith)
walk_part step r l (suc k) (b ∷ t) (suc m) e h s = walk_part step r l k t m (omega arith) (omega arith) s
walk_part step r l zero (b ∷ t) m e h s = go (step (b ∷ t)) m refl e h s (λ n. walk_part step r l n t)
  where
    go : (s : Step) (m : ℕ) → step (b ∷ t) ≡ s → 0 + size (after s b (λ n. walk step n t)) ≡ m → m < suc (length t)
        → step (drop m (b ∷ t) ++ r) ≡ stop
        → ((n m : ℕ) → n + size (walk step n t) ≡ m → m < length t → step (drop m t ++ r) ≡ stop
        → size (walk step n (t ++ r)) ≡ size (walk step n t))
        → size (walk step 0 (b ∷ (t ++ r))) ≡ size (after s b (λ n. walk step n t))
    go keep zero q e h p ih = absurd (omega arith)
    go keep (suc m) q e h p ih =
        rw (l b t (subst (λ (s : Step). Inside s (length t)) (sym q) tt) ∙ q) (ap suc (ih 0 m (omega arith) (omega arith) p))
    go (give n out) zero q e h p ih = absurd (omega arith)
    go (give n out) (suc m) q e h p ih =
        rw (l b t (subst (λ (s : Step). Inside s (length t)) (sym q) (omega arith)) ∙ q)
        (ap (λ (x : ℕ). suc (n + x)) (ih n m (omega arith) (omega arith) p))
    go stop zero q e h p ih = rw p
    go stop (suc m) q e h p ih = absurd (omega arith)

-- where a walk stops, nothing may stand
pub stop_at : (step : List ℕ → Step) (k : ℕ) (t : List ℕ) → T (stops (walk step k t)) → (m : ℕ) → k + size (walk step k t) ≡ m
    → (d : ℕ) × (r : List ℕ) × (drop m t ≡ d ∷ r) × (step (d ∷ r) ≡ stop)
stop_at step zero [] h m e = absurd h
stop_at step (suc k) [] h m e = absurd h
stop_at step (suc k) (b ∷ t) h zero e = absurd (omega arith)
stop_at step (suc k) (b ∷ t) h (suc m) e = stop_at step k t h m (omega arith)
stop_at step zero (b ∷ t) h m e = go (step (b ∷ t)) m refl h e (λ n. stop_at step n t)
  where
    go : (s : Step) (m : ℕ) → step (b ∷ t) ≡ s → T (stops (after s b (λ n. walk step n t))) → 0 + size (after s b (λ n. walk step n t)) ≡ m
        → ((n : ℕ) → T (stops (walk step n t)) → (m : ℕ) → n + size (walk step n t) ≡ m → (d : ℕ) × (r : List ℕ) × (drop m t ≡ d ∷ r) × (step (d ∷ r) ≡ stop))
        → (d : ℕ) × (r : List ℕ) × (drop m (b ∷ t) ≡ d ∷ r) × (step (d ∷ r) ≡ stop)
    go keep zero q g e ih = absurd (omega arith)
    go keep (suc m) q g e ih = ih 0 g m (omega arith)
    go (give n out) zero q g e ih = absurd (omega arith)
    go (give n out) (suc m) q g e ih = ih n g m (omega arith)
    go stop zero q g e ih = (b, t, refl, q)
    go stop (suc m) q g e ih = absurd (omega arith)
