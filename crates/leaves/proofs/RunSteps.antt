-- Runs of bytes at a place of a text. Assumes nothing.
use Rattle.std.proofs.Common.{◌≡◌, ℕ, zero, suc, ◌+◌, ◌-◌, ◌<◌, ◌≤◌, Bool, true, false, not, List, [], ◌∷◌, length, take, drop, sym, refl, ap, ◌∙◌, subst, arith, length-drop, drop_of_length-le, get_or-drop, drop-cons}
use lib.Seq.{take_all}
use borrow.Author.Tests.{not-true}
use Rattle.meaning.specs.Bytes.{◌!◌, span, in_name, in_tag}
use Rattle.std.specs.Prelude.{if◌then◌else◌}
use Rattle.meaning.specs.Walk.{Step, keep}
use Rattle.laws.proofs.walking.Courses.{Kept}
use Rattle.leaves.specs.declared.runs.NameClass.{NameClass}
use Rattle.leaves.specs.declared.runs.NameClass.TheVariants.{Charset, DollarTag}
use Rattle.leaves.specs.Runs.{in_class}

pub span_length : (p : ℕ → Bool) (t : List ℕ) → span p t ≤ length t
span_length p [] = omega arith
span_length p (b ∷ t) = go (p b) (span_length p t)
  where
    go : (x : Bool) → span p t ≤ length t → (if x then suc (span p t) else 0) ≤ suc (length t)
    go true h = omega arith
    go false h = omega arith

-- a run that is not empty lies inside the text
pub span_inside : (p : ℕ → Bool) (l : List ℕ) (at n : ℕ) → n ≡ span p (drop at l) → (n ≡ 0 → ⊥) → at + n ≤ length l
span_inside p l at n e z = omega (arith, span_length p (drop at l), length-drop at l)

-- THE RUN SO FAR: n bytes from `at` pass the test
pub record RunSoFar (p : ℕ → Bool) (l : List ℕ) (at n : ℕ) : Type 0 where
  pub run : span p (drop at l) ≡ n + span p (drop (at + n) l)
  pub within : at + n ≤ length l

module _ (p : ℕ → Bool) (l : List ℕ) (at : ℕ) where
  pub run_none : at < length l → RunSoFar p l at 0
  run_none h =
      let z : at + 0 ≡ at = omega arith in
      record {
        run = let s : span p (drop at l) ≡ 0 + span p (drop at l) = omega arith in s ∙ ap (λ (k : ℕ). 0 + span p (drop k l)) (sym z);
        within = omega arith;
      }

  span_at : (i : ℕ) → i < length l → span p (drop i l) ≡ (if p (l ! i) then suc (span p (drop (suc i) l)) else 0)
  span_at i h = ap (span p) (drop-cons l i 0 h)

  module _ (n : ℕ) (s : RunSoFar p l at n) where
    pub run_stop : n < length l - at → (x : Bool) → x ≡ p (l ! (at + n)) → not x ≡ true → n ≡ span p (drop at l)
    run_stop h x e t =
        let f : span p (drop (at + n) l) ≡ 0 = span_at (at + n) (omega arith) ∙ rw (sym e ∙ not-true x t) in
        omega (arith, s.run, f)

    pub run_end : length l - at ≤ n → n ≡ span p (drop at l)
    run_end h =
        let i : length l ≤ at + n = omega (arith, s.within) in
        let f : span p (drop (at + n) l) ≡ 0 = ap (span p) (drop_of_length-le l i) in
        omega (arith, s.run, f)

pub run_past : (p : ℕ → Bool) (l : List ℕ) (at : ℕ) → length l ≤ at → 0 ≡ span p (drop at l)
run_past p l at h = sym (ap (span p) (drop_of_length-le l h))

-- a byte that does not pass ends a run, and one that passes goes on with it
pub span_hit : (p : ℕ → Bool) (b : ℕ) (t : List ℕ) → p b ≡ false → span p (b ∷ t) ≡ 0
span_hit p b t e = rw e

pub span_miss : (p : ℕ → Bool) (b : ℕ) (t : List ℕ) → p b ≡ true → span p (b ∷ t) ≡ span p t + 1
span_miss p b t e = rw e (omega arith)

-- BYTES THAT STAND FOR THEMSELVES: each that passes a test does, whatever follows it
abbrev pub KeepsAll : (ℕ → Bool) → (List ℕ → Step) → Type 0
KeepsAll p step = (b : ℕ) (t : List ℕ) → p b ≡ true → step (b ∷ t) ≡ keep

span_each : (p : ℕ → Bool) (t : List ℕ) (i : ℕ) → i < span p t → p (t ! i) ≡ true
span_each p [] i h = absurd (omega arith)
span_each p (b ∷ t) i h = go (p b) refl i h (span_each p t)
  where
    go : (x : Bool) → p b ≡ x → (i : ℕ) → i < (if x then suc (span p t) else 0) → ((j : ℕ) → j < span p t → p (t ! j) ≡ true) → p ((b ∷ t) ! i) ≡ true
    go true e zero h ih = e
    go true e (suc i) h ih = ih i (omega arith)
    go false e i h ih = absurd (omega arith)

-- a byte that stands for itself, and behind it a run of such
pub run_kept : (p : ℕ → Bool) (step : List ℕ → Step) → KeepsAll p step → (l : List ℕ) (at : ℕ) → at < length l → step (drop at l) ≡ keep → (n : ℕ)
    → n ≡ span p (drop (at + 1) l) → Kept step l at (suc n)
run_kept p step k l at h e n en = record { room = room; each = each }
  where
    room : at + suc n ≤ length l
    room = omega (arith, span_length p (drop (at + 1) l), length-drop (at + 1) l, en)

    each : (j : ℕ) → j < suc n → step (drop (at + j) l) ≡ keep
    each zero q = let z : at ≡ at + 0 = omega arith in subst (λ (i : ℕ). step (drop i l) ≡ keep) z e
    each (suc j) q =
        let z : at + 1 + j ≡ at + suc j = omega arith in
        let i : at + suc j < length l = omega (arith, room) in
        let b : p (l ! (at + suc j)) ≡ true = subst (λ (i : ℕ). p (l ! i) ≡ true) z
        (ap p (sym (get_or-drop (at + 1) l j 0)) ∙ span_each p (drop (at + 1) l) j (omega (arith, en))) in
        ap step (drop-cons l (at + suc j) 0 i) ∙ k (l ! (at + suc j)) (drop (suc (at + suc j)) l) b

-- WHAT STANDS BEHIND A PLACE
pub rest_all : (at : ℕ) (t : List ℕ) → take (length t - at) (drop at t) ≡ drop at t
rest_all at t = take_all (length t - at) (drop at t) (omega (arith, length-drop at t))

pub rest_length : (at : ℕ) (t : List ℕ) → length (take (length t - at) (drop at t)) ≡ length t - at
rest_length at t = ap length (rest_all at t) ∙ length-drop at t

-- A CLASS by its case
module _ (k : NameClass) (b : ℕ) (x : Bool) where
  pub class_charset : k ≡ Charset → x ≡ in_name b → x ≡ in_class k b
  class_charset q e = e ∙ ap (λ (c : NameClass). in_class c b) (sym q)

  pub class_tag : k ≡ DollarTag → x ≡ in_tag b → x ≡ in_class k b
  class_tag q e = e ∙ ap (λ (c : NameClass). in_class c b) (sym q)
