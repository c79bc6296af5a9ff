-- A walk's front: the first bytes of a text, taken unit by unit, what they stand for, and whether each stands for itself. Whoever reads a text piece by piece
-- has such a front of each piece, and one behind the other they are a front again. Assumes nothing.
use mathlib.Core.Path.{◌≡◌, refl, ap, ap₂, sym, ◌∙◌, subst}
use mathlib.Core.Bool.{Bool, true, false, ◌&&◌, false≢true}
use mathlib.Core.List.{List, [], ◌∷◌, ◌++◌, append-nil}
use Prim.Native.Nat.{ℕ, zero, suc, ◌+◌, ◌≤◌}
use native.Mathlib.Omega.{arith}
use lib.ListN.{length, take, drop, length-append}
use Rattle.meaning.specs.Walk.{Step, keep, give, stop, Trace, ended, stopped, kept, gave, after, walk, size, stops, plain, value}
use Rattle.laws.proofs.walking.Walks.{graft}
use Rattle.laws.proofs.walking.StepBounds.{Bounded, Steady}
use Rattle.laws.proofs.walking.Courses.{value_graft, plain_both, SoFar, so_far_none, so_far_give, so_far_append, Kept, kept_taken}

pub record Front (step : List ℕ → Step) (l : List ℕ) (at : ℕ) (v : List ℕ) (p : Bool) : Type 0 where
  pub so_far : SoFar step l at
  pub means : value so_far.course ≡ v
  pub plainly : plain so_far.course ≡ p

pub front_none : (step : List ℕ → Step) (l : List ℕ) → Front step l 0 [] true
unfolding so_far_none
front_none step l = record { so_far = so_far_none step l; means = refl; plainly = refl }

-- one behind the other
pub front_more : {step : List ℕ → Step} {l : List ℕ} {i : ℕ} {v : List ℕ} {p : Bool} → Front step l i v p → (j : ℕ) (w : List ℕ) (q : Bool)
    → Front step (drop i l) j w q → Front step l (i + j) (v ++ w) (p && q)
unfolding so_far_append
front_more f j w q g = record {
  so_far = so_far_append f.so_far j g.so_far;
  means = value_graft f.so_far.course g.so_far.course f.so_far.goes ∙ ap₂ (λ (a b : List ℕ). a ++ b) f.means g.means;
  plainly = plain_both f.so_far.course g.so_far.course ∙ ap₂ (λ (a b : Bool). a && b) f.plainly g.plainly;
}

-- bytes that stand for themselves
pub front_kept : (step : List ℕ → Step) (l : List ℕ) (k : ℕ) → Kept step l 0 k → Front step l k (take k l) true
unfolding so_far_none
front_kept step l k h =
    let t = kept_taken (so_far_none step l) k h in
    let z : 0 + k ≡ k = omega arith in
    subst (λ (n : ℕ). Front step l n (take k l) true) z
    (record { so_far = t.next; means = t.means; plainly = t.plainly })

-- a unit that stands for other bytes
pub front_unit : (step : List ℕ → Step) (l : List ℕ) (k : ℕ) (out : List ℕ) → step l ≡ give k out → suc k ≤ length l → Front step l (suc k) out false
unfolding so_far_none so_far_give
front_unit step l k out e h =
    let z : 0 + suc k ≡ suc k = omega arith in
    record { so_far = so_far_give (so_far_none step l) k out (suc k) (omega arith) e z; means = append-nil out; plainly = refl }

-- WHERE UNITS stand for no more bytes than they take, so does a front
nothing_brief : (c q : Trace) → stops c ≡ false → ended ≡ graft c q → length (value c) ≤ size c
nothing_brief ended q h e = omega arith
nothing_brief stopped q h e = absurd (false≢true (sym h))
nothing_brief (kept b c) q h e = let y : ◌≡◌ {A = ℕ} 0 1 = cc in absurd (omega arith)
nothing_brief (gave n out c) q h e = let y : ◌≡◌ {A = ℕ} 0 1 = cc in absurd (omega arith)

course_brief : (step : List ℕ → Step) → Steady step → (k : ℕ) (l : List ℕ) (c q : Trace) → stops c ≡ false → walk step k l ≡ graft c q
    → length (value c) ≤ size c
course_brief step ok zero [] c q h e = nothing_brief c q h e
course_brief step ok (suc k) [] c q h e = nothing_brief c q h e
course_brief step ok (suc k) (a ∷ l) c q h e = course_brief step ok k l c q h e
course_brief step ok zero (a ∷ l) c q h e = go (step (a ∷ l)) (ok a l) c h e (λ n c. course_brief step ok n l c q)
  where
    go : (s : Step) → Bounded s (length l) → (c : Trace) → stops c ≡ false → after s a (λ n. walk step n l) ≡ graft c q
        → ((n : ℕ) (c : Trace) → stops c ≡ false → walk step n l ≡ graft c q → length (value c) ≤ size c) → length (value c) ≤ size c
    go s b ended h e ih = omega arith
    go s b stopped h e ih = absurd (false≢true (sym h))
    go keep b (kept d c) h e ih = let w : walk step 0 l ≡ graft c q = cc in let i = ih 0 c h w in omega arith
    go keep b (gave n out c) h e ih = let y : ◌≡◌ {A = ℕ} 0 1 = cc in absurd (omega arith)
    go (give m o) b (kept d c) h e ih = let y : ◌≡◌ {A = ℕ} 0 1 = cc in absurd (omega arith)
    go (give m o) b (gave n out c) h e ih =
        let w : walk step m l ≡ graft c q = cc in
        let x : m ≡ n = cc in
        let y : o ≡ out = cc in
        let i = ih m c h w in
        omega (arith, length-append out (value c), ap length y)
    go stop b (kept d c) h e ih = let y : ◌≡◌ {A = ℕ} 0 1 = cc in absurd (omega arith)
    go stop b (gave n out c) h e ih = let y : ◌≡◌ {A = ℕ} 0 1 = cc in absurd (omega arith)

pub front_brief : {step : List ℕ → Step} {l : List ℕ} {at : ℕ} {v : List ℕ} {p : Bool} → Steady step → Front step l at v p → length v ≤ at
front_brief {step} {l} {at} {v} ok f =
    let b = course_brief step ok 0 l f.so_far.course (walk step 0 (drop at l)) f.so_far.goes f.so_far.rest in
    omega (arith, ap length f.means, f.so_far.place)
