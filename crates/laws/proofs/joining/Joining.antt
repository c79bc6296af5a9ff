-- Joining, over what a text means: texts A and B, each one segment or continued by a quote mark, white space between, B beginning with a quote mark, mean A's
-- value followed by B's. Assumes nothing.
use mathlib.Core.Logic.{◌⊎◌, inl, inr}
use mathlib.Core.Path.{◌≡◌, refl, ap, sym, ◌∙◌, subst}
use mathlib.Core.Bool.{Bool, true, false, ◌&&◌}
use mathlib.Core.List.{List, [], ◌∷◌, ◌++◌, append_assoc, append-nil}
use Prim.Native.Nat.{ℕ, zero, suc, ◌+◌, ◌≤◌, ◌<◌}
use native.Mathlib.Nat.{add-zero, zero-add}
use native.Mathlib.Omega.{arith}
use native.Mathlib.Decide.{dec_lt}
use lib.Dec.{T, ltb, lt→ltb}
use lib.ListN.{length, take, drop, length-append, length-drop}
use lib.Seq.{drop-append-le, take-append-le, drop-drop, drop-append_seam, drop-length, take-length}
use Rattle.meaning.specs.declared.Settings.{Settings}
use Rattle.meaning.specs.Bytes.{◌!◌, is_mark}
use Rattle.meaning.specs.Walk.{give, walk}
use Rattle.meaning.specs.Steps.{space_step, gap, trim}
use Rattle.meaning.specs.Cutting.{continues, segment, segment_step, cut}
use Rattle.meaning.specs.Reading.{meaning, written, Value, means, fails, value_of, onward, both, joined, as_written, one, read}
use Rattle.laws.proofs.basics.Tests.{T→true, and_left, and_right}
use Rattle.laws.proofs.walking.Walks.{walk_drop, walk_skip, walk_part, Exact, exact_append}
use Rattle.laws.proofs.cutting.Gaps.{Solid, mark_solid, space_local, gap_fits, gap_append}
use Rattle.laws.proofs.cutting.Openings.{opening_solid, segment_of_lem, segment_fits, segment_extend}
use Rattle.laws.proofs.writing.Written.{lone}

-- white space: whole white-space characters, and nothing else
abbrev pub White : List ℕ → Type 0
White w = Exact space_step w

pub fails≢means : (p : ℕ) (v : List ℕ) → fails p ≡ means v → ⊥
fails≢means p v e = let z : ◌≡◌ {A = ℕ} 0 1 = cc in omega arith

pub both_means : (x y : Value) (n : ℕ) (a : List ℕ) → both x (onward n y) ≡ means a
    → (v : List ℕ) × (w : List ℕ) × (x ≡ means v) × (y ≡ means w) × (a ≡ v ++ w)
both_means (fails p) y n a e = absurd (fails≢means p a e)
both_means (means v) (fails p) n a e = absurd (fails≢means (n + p) a e)
both_means (means v) (means w) n a e = (v, w, refl, refl, cc)

-- a segment begins with no white space
pub segment_solid : (σ : Settings) (b : ℕ) (t : List ℕ) (e : ℕ) → segment σ (b ∷ t) ≡ suc e → Solid b
segment_solid σ b t e h = let s = segment_of_lem σ (b ∷ t) e h in opening_solid b t s.0 s.1

drop_inside : (n : ℕ) (t : List ℕ) → n < length t → (c : ℕ) × (x : List ℕ) × (drop n t ≡ c ∷ x)
drop_inside n [] h = absurd (omega arith)
drop_inside zero (c ∷ t) h = (c, t, refl)
drop_inside (suc n) (c ∷ t) h = drop_inside n t (omega arith)

pub white_head : (g : ℕ) (G : List ℕ) → White (g ∷ G) → is_mark g ≡ false
white_head g G w = go (is_mark g) refl
  where
    go : (x : Bool) → is_mark g ≡ x → x ≡ false
    go true m = absurd (let z : 0 ≡ suc (length G) = sym (rw (mark_solid g m G) refl) ∙ w in omega arith)
    go false m = refl

module _ (σ : Settings) (g : ℕ) (G : List ℕ) (white : White (g ∷ G)) (q : ℕ) (B : List ℕ) (mark : is_mark q ≡ true) where
  gapped : List ℕ
  gapped = g ∷ (G ++ (q ∷ B))

  abbrev ext : ℕ → List ℕ → ℕ
  ext zero [] = length (g ∷ G)
  ext (suc k) [] = 0
  ext zero (b ∷ A) = 0
  ext (suc k) (b ∷ A) = suc (ext k A)

  ext_end : (n : ℕ) (A : List ℕ) → n ≡ length A → ext n A ≡ n + length (g ∷ G)
  ext_end zero [] h = omega arith
  ext_end (suc n) [] h = absurd (omega arith)
  ext_end zero (b ∷ A) h = absurd (omega arith)
  ext_end (suc n) (b ∷ A) h = let r = ext_end n A (omega arith) in omega arith

  ext_mid : (n : ℕ) (A : List ℕ) → n < length A → ext n A ≡ n
  ext_mid n [] h = absurd (omega arith)
  ext_mid zero (b ∷ A) h = refl
  ext_mid (suc n) (b ∷ A) h = ap suc (ext_mid n A (omega arith))

  -- the gap behind a segment of A reaches over G if nothing of A is left
  gap_end : (d : List ℕ) → gap d ≡ length d → gap (d ++ gapped) ≡ length d + length (g ∷ G)
  unfolding gapped
  gap_end d h =
      rw (← append_assoc d (g ∷ G) (q ∷ B))
      (gap_append (d ++ (g ∷ G)) (exact_append space_step d (g ∷ G) (space_local (g ∷ G)) h white) q B (mark_solid q mark B)
      ∙ length-append d (g ∷ G))

  gap_mid : (d : List ℕ) → gap d < length d → (c : ℕ) (x : List ℕ) → drop (gap d) d ≡ c ∷ x → Solid c → gap (d ++ gapped) ≡ gap d
  gap_mid d h c x e s =
      walk_part space_step gapped (space_local gapped) 0 d (gap d) (zero-add (gap d)) h (rw e (rw (s (x ++ gapped)) refl))

  module _ (b : ℕ) (A : List ℕ) (e : ℕ) (h : segment σ (b ∷ A) ≡ suc e) where
    n : ℕ
    n = e + gap (drop e A)

    e_fits : e ≤ length A
    e_fits = let f = segment_fits σ (b ∷ A) e h in omega arith

    n_fits : n ≤ length A
    unfolding n
    n_fits = let f = e_fits in let k = gap_fits (drop e A) in omega (arith, length-drop e A)

    step_here : segment_step σ (b ∷ A) ≡ give n (b ∷ take e A)
    unfolding n segment_step
    step_here = rw h

    step_by_lem : (m : ℕ) → gap (drop e A ++ gapped) ≡ m → segment_step σ (b ∷ (A ++ gapped)) ≡ give (e + m) (b ∷ take e A)
    unfolding segment_step gapped
    step_by_lem m k =
        rw (segment_extend σ (b ∷ A) gapped e (white_head g G white) h, drop-append-le e A gapped e_fits, take-append-le e A gapped e_fits, k)

    step_end : n ≡ length A → segment_step σ (b ∷ (A ++ gapped)) ≡ give (ext n A) (b ∷ take e A)
    unfolding n
    step_end i =
        let f = e_fits in
        let l = length-drop e A in
        rw (step_by_lem (length (drop e A) + length (g ∷ G)) (gap_end (drop e A) (omega arith)), ext_end n A i)
        (ap (λ (m : ℕ). give m (b ∷ take e A)) (omega arith))

    step_mid : n < length A → (c : ℕ) (x : List ℕ) → drop n A ≡ c ∷ x → Solid c → segment_step σ (b ∷ (A ++ gapped)) ≡ give (ext n A) (b ∷ take e A)
    unfolding n
    step_mid i c x d s =
        let f = e_fits in
        rw (step_by_lem (gap (drop e A)) (gap_mid (drop e A) (omega (arith, length-drop e A)) c x (drop-drop (gap (drop e A)) e A ∙ d) s), ext_mid n A i)

  -- where a text's segments mean something, it begins with one
  means_solid : (c : ℕ) (x w : List ℕ) → joined σ (walk (segment_step σ) 0 (c ∷ x)) ≡ means w → Solid c
  unfolding segment_step
  means_solid c x w h = go (segment σ (c ∷ x)) refl
    where
      go : (s : ℕ) → segment σ (c ∷ x) ≡ s → Solid c
      go zero s = absurd (fails≢means 0 w (rw s at h))
      go (suc e) s = segment_solid σ c x e s

  step_on : (c : ℕ) (A : List ℕ) (e : ℕ) (s : segment σ (c ∷ A) ≡ suc e) (w : List ℕ)
      → joined σ (walk (segment_step σ) (n c A e s) A) ≡ means w
      → segment_step σ (c ∷ (A ++ gapped)) ≡ give (ext (n c A e s) A) (c ∷ take e A)
  step_on c A e s w h = go (dec_lt (n c A e s) (length A))
    where
      go : Dec (n c A e s < length A) → segment_step σ (c ∷ (A ++ gapped)) ≡ give (ext (n c A e s) A) (c ∷ take e A)
      go (no i) = let f = n_fits c A e s in step_end c A e s (omega arith)
      go (yes i) =
          let d = drop_inside (n c A e s) A i in
          step_mid c A e s i d.0 d.1 d.2
          (means_solid d.0 d.1 w (rw (walk_drop (segment_step σ) (n c A e s) A, d.2) at h))

  -- the walk over A and the rest means what A means, and then what B means
  main : (k : ℕ) (A a b : List ℕ) → k ≤ length A → joined σ (walk (segment_step σ) k A) ≡ means a
      → joined σ (walk (segment_step σ) 0 (q ∷ B)) ≡ means b
      → joined σ (walk (segment_step σ) (ext k A) (A ++ gapped)) ≡ means (a ++ b)
  unfolding gapped segment_step
  main zero [] a b h ea eb =
      let z : a ≡ [] = cc in
      rw (walk_skip (segment_step σ) (g ∷ G) (q ∷ B), z) eb
  main (suc k) [] a b h ea eb = absurd (omega arith)
  main (suc k) (c ∷ A) a b h ea eb = main k A a b (omega arith) ea eb
  main zero (c ∷ A) a b h ea eb = go (segment σ (c ∷ A)) refl (λ k w. main k A w b)
    where
      go : (s : ℕ) → segment σ (c ∷ A) ≡ s
          → ((k : ℕ) (w : List ℕ) → k ≤ length A → joined σ (walk (segment_step σ) k A) ≡ means w
          → joined σ (walk (segment_step σ) 0 (q ∷ B)) ≡ means b
          → joined σ (walk (segment_step σ) (ext k A) (A ++ gapped)) ≡ means (w ++ b))
          → joined σ (walk (segment_step σ) 0 (c ∷ (A ++ gapped))) ≡ means (a ++ b)
      go zero s ih = absurd (fails≢means 0 a (rw s at ea))
      go (suc e) s ih =
          let p = both_means (value_of (c ∷ take e A) (one σ (c ∷ take e A))) (joined σ (walk (segment_step σ) (n c A e s) A)) (suc (n c A e s)) a
          (rw (step_here c A e s) at ea) in
          rw (step_on c A e s p.1 p.3, p.2, ih (n c A e s) p.1 (n_fits c A e s) p.3 eb)
          (ap means (sym (append_assoc p.0 p.1 b) ∙ ap (◌++ b) (sym p.4)))

-- a text that is one segment, or in which a quote mark follows the first segment
abbrev pub Ready : Settings → List ℕ → Type 0
Ready σ t = (segment σ t ≡ length t) ⊎ (continues σ t ≡ true)

pub value_written : (t : List ℕ) (x : Value) → value_of t (as_written x) ≡ x
value_written t (means v) = refl
value_written t (fails p) = refl

pub joined_of : (σ : Settings) (b : ℕ) (t v : List ℕ) → Ready σ (b ∷ t) → meaning σ (b ∷ t) ≡ means v
    → joined σ (walk (segment_step σ) 0 (b ∷ t)) ≡ means v
unfolding segment_step read cut
joined_of σ b t v (inl e) h =
    rw (
      e,
      drop-length t,
      take-length t,
      add-zero (length t),
      walk_drop (segment_step σ) (length t) t,
      drop-length t,
      ap (value_of (b ∷ t)) (sym (lone σ (b ∷ t) e)) ∙ h,
    )
    (ap means (append-nil v))
joined_of σ b t v (inr c) h = sym (value_written (b ∷ t) (joined σ (walk (segment_step σ) 0 (b ∷ t)))) ∙ (rw c at h)

head_mark : (d : List ℕ) → is_mark (d ! 0) ≡ true → (c : ℕ) × (x : List ℕ) × (d ≡ c ∷ x) × (is_mark c ≡ true)
unfolding is_mark
head_mark [] h = absurd (subst T (sym h) tt)
head_mark (c ∷ x) h = (c, x, refl, h)

module _ (σ : Settings) (g : ℕ) (G : List ℕ) (white : White (g ∷ G)) (q : ℕ) (B : List ℕ) (mark : is_mark q ≡ true) where
  pub goes_on : (b : ℕ) (A : List ℕ) → Ready σ (b ∷ A) → continues σ (b ∷ (A ++ (g ∷ (G ++ (q ∷ B))))) ≡ true
  unfolding continues gapped
  goes_on b A (inl e) =
      rw (
        segment_extend σ (b ∷ A) (g ∷ (G ++ (q ∷ B))) (length A) (white_head g G white) e,
        T→true (ltb 0 (suc (length A))) (lt→ltb 0 (suc (length A)) (omega arith)),
        drop-append_seam A (g ∷ (G ++ (q ∷ B))),
        gap_append (g ∷ G) white q B (mark_solid q mark B),
        drop-append_seam G (q ∷ B),
      )
      mark
  goes_on b A (inr c) = go (segment σ (b ∷ A)) refl c
    where
      go : (s : ℕ) → segment σ (b ∷ A) ≡ s → (ltb 0 s && is_mark (trim (drop s (b ∷ A)) ! 0)) ≡ true
          → continues σ (b ∷ (A ++ (g ∷ (G ++ (q ∷ B))))) ≡ true
      go zero s k = absurd (subst T (sym k) tt)
      go (suc e) s k =
          let f : e ≤ length A = let z = segment_fits σ (b ∷ A) e s in omega arith in
          let m = head_mark (trim (drop e A)) (and_right (ltb 0 (suc e)) (is_mark (trim (drop e A) ! 0)) k) in
          let i : gap (drop e A) < length (drop e A) = omega (arith, length-drop (gap (drop e A)) (drop e A), ap length m.2) in
          rw (
            segment_extend σ (b ∷ A) (g ∷ (G ++ (q ∷ B))) e (white_head g G white) s,
            and_left (ltb 0 (suc e)) (is_mark (trim (drop e A) ! 0)) k,
            drop-append-le e A (g ∷ (G ++ (q ∷ B))) f,
            gap_mid σ g G white q B mark (drop e A) i m.0 m.1 m.2 (mark_solid m.0 m.3),
            drop-append-le (gap (drop e A)) (drop e A) (g ∷ (G ++ (q ∷ B))) (omega arith),
            m.2,
          )
          m.3

  -- THE LAW, for a text that is one segment or continues
  pub join : (b : ℕ) (A v w : List ℕ) → Ready σ (b ∷ A) → meaning σ (b ∷ A) ≡ means v → Ready σ (q ∷ B) → meaning σ (q ∷ B) ≡ means w
      → read σ ((b ∷ A) ++ ((g ∷ G) ++ (q ∷ B))) ≡ written (v ++ w)
  unfolding read cut gapped
  join b A v w ra ea rb eb =
      rw (goes_on b A ra, main σ g G white q B mark 0 (b ∷ A) v w (omega arith) (joined_of σ b A v ra ea) (joined_of σ q B w rb eb))
