-- The search for a closing mark at a place of a body: what stands there by the tests of its byte and the next, each turn, and what each way out
-- answers. Assumes nothing.
use mathlib.Core.Path.{◌≡◌, refl, sym, ap, ◌∙◌, subst}
use mathlib.Core.Bool.{Bool, true, false, ◌&&◌, not, or-false}
use mathlib.Core.List.{List, [], ◌∷◌}
use Prim.Native.Nat.{ℕ, suc, ◌+◌, ◌-◌, ◌≤◌, ◌<◌}
use native.Mathlib.Omega.{arith}
use lib.Dec.{eqb}
use lib.ListN.{length, drop}
use lib.Seq.{drop-cons, get_or-drop}
use borrow.Author.Tests.{eq-eqb, ne_eqb, eqb-true, not-true}
use Rattle.meaning.specs.Bytes.{◌!◌, span, backslash, is_mark}
use Rattle.std.specs.Prelude.{if◌then◌else◌}
use Rattle.meaning.specs.Walk.{keep, give, stop, walk}
use Rattle.meaning.specs.Steps.{closing_step, doubled}
use Rattle.laws.proofs.basics.Tests.{and_left, and_right}
use Rattle.laws.proofs.walking.Courses.{SoFar, so_far_give, Kept, kept_taken, stops_here, size_here, stops_end, stops_over}
use Rattle.laws.proofs.cutting.Openings.{inside}
use Rattle.leaves.specs.declared.blocks.Stops.{Stops}
use Rattle.leaves.specs.Blocks.{free_of}
use Rattle.leaves.proofs.RunSteps.{KeepsAll, run_kept}
use Rattle.cutting.specs.declared.marks.Mark.{Mark}
use Rattle.cutting.specs.declared.marks.Mark.TheVariants.{Quote, DoubleQuote}
use Rattle.cutting.specs.Marks.{mark_of, closed_of, stops_by}
use Rattle.std.specs.Prelude.{Some, None}

next_byte : (l : List ℕ) (at : ℕ) → drop (suc at) l ! 0 ≡ l ! (at + 1)
next_byte l at = let e : suc at + 0 ≡ at + 1 = omega arith in get_or-drop (suc at) l 0 0 ∙ ap (λ (n : ℕ). l ! n) e

-- a byte that is a mark is no 0, so it lies inside the body
mark_lies : (m : Mark) (q : ℕ) (l : List ℕ) (i : ℕ) → q ≡ mark_of m → l ! i ≡ q → i < length l
mark_lies Quote q l i e p = inside (λ b. eqb b 39) refl l i (eq-eqb (l ! i) 39 (p ∙ e))
mark_lies DoubleQuote q l i e p = inside (λ b. eqb b 34) refl l i (eq-eqb (l ! i) 34 (p ∙ e))

-- a mark that is no quote
pub mark_other : (b : ℕ) → is_mark b ≡ true → (b ≡ 39 → ⊥) → 34 ≡ b
unfolding is_mark
mark_other b m n = sym (eqb-true b 34 (rw (ne_eqb b 39 n, or-false) at m))

-- any other byte than the stops is passed over
others_kept : (h : Bool) (q : ℕ) → KeepsAll (free_of (stops_by h q)) (closing_step h q)
unfolding free_of stops_by
others_kept h q b t f = rw (hidden h (second (stops_by h q).second f), mark)
  where
    mark : eqb b q ≡ false
    mark = not-true (eqb b q) (and_right (not (eqb b q) && not (eqb b (stops_by h q).second)) (not (eqb b q)) f)

    second : (s : ℕ) → (not (eqb b q) && not (eqb b s) && not (eqb b q)) ≡ true → eqb b s ≡ false
    second s g = not-true (eqb b s) (and_right (not (eqb b q)) (not (eqb b s)) (and_left (not (eqb b q) && not (eqb b s)) (not (eqb b q)) g))

    hidden : (h : Bool) → eqb b (if h then backslash else q) ≡ false → (h && eqb b backslash) ≡ false
    hidden true e = e
    hidden false e = refl

module _ (h : Bool) (q : ℕ) (l : List ℕ) (at : ℕ) (i : at < length l) where
  step_at : closing_step h q (drop at l) ≡ (if h && eqb (l ! at) backslash then give 1 [] else if eqb (l ! at) q then doubled q (drop (suc at) l) else keep)
  step_at = ap (closing_step h q) (drop-cons l at 0 i)

  step_hidden : (h && eqb (l ! at) backslash) ≡ true → closing_step h q (drop at l) ≡ give 1 []
  step_hidden t = step_at ∙ rw t

  step_doubled : (h && eqb (l ! at) backslash) ≡ false → l ! at ≡ q → l ! (at + 1) ≡ q → closing_step h q (drop at l) ≡ give 1 (q ∷ [])
  unfolding doubled
  step_doubled t a b = step_at ∙ rw (t, eq-eqb (l ! at) q a, next_byte l at, eq-eqb (l ! (at + 1)) q b)

  step_lone : (h && eqb (l ! at) backslash) ≡ false → l ! at ≡ q → (l ! (at + 1) ≡ q → ⊥) → closing_step h q (drop at l) ≡ stop
  unfolding doubled
  step_lone t a b = step_at ∙ rw (t, eq-eqb (l ! at) q a, next_byte l at, ne_eqb (l ! (at + 1)) q b)

  step_other : (h && eqb (l ! at) backslash) ≡ false → (l ! at ≡ q → ⊥) → closing_step h q (drop at l) ≡ keep
  step_other t a = step_at ∙ rw (t, ne_eqb (l ! at) q a)

  -- a turn
  pub turn_hidden : SoFar (closing_step h q) l at → 2 ≤ length l - at → (h && eqb (l ! at) backslash) ≡ true → SoFar (closing_step h q) l (at + 2)
  turn_hidden s r t = so_far_give s 1 [] (at + 2) (omega arith) (step_hidden t) (omega arith)

  pub turn_doubled : SoFar (closing_step h q) l at → (m : Mark) → q ≡ mark_of m → (h && eqb (l ! at) backslash) ≡ false → l ! at ≡ q
      → (x : ℕ) → x ≡ l ! (at + 1) → x ≡ q → SoFar (closing_step h q) l (at + 2)
  turn_doubled s m e t a x n b =
      let j = mark_lies m q l (at + 1) e (sym n ∙ b) in so_far_give s 1 (q ∷ []) (at + 2) (omega arith) (step_doubled t a (sym n ∙ b)) (omega arith)

  -- a byte that is passed over, and the run of such behind it
  module _ (k : Stops) (ek : k ≡ stops_by h q) (n : ℕ) (en : n ≡ span (free_of k) (drop (at + 1) l)) where
    passed : (h && eqb (l ! at) backslash) ≡ false → (l ! at ≡ q → ⊥) → Kept (closing_step h q) l at (suc n)
    passed t a =
        run_kept (free_of (stops_by h q)) (closing_step h q) (others_kept h q) l at i (step_other t a) n
        (en ∙ ap (λ (x : Stops). span (free_of x) (drop (at + 1) l)) ek)

    pub run_fits : (h && eqb (l ! at) backslash) ≡ false → (l ! at ≡ q → ⊥) → at + (1 + n) ≤ length l
    run_fits t a = omega (arith, (passed t a).room)

    pub turn_other : SoFar (closing_step h q) l at → (h && eqb (l ! at) backslash) ≡ false → (l ! at ≡ q → ⊥) → SoFar (closing_step h q) l (at + (1 + n))
    turn_other s t a =
        let z : at + suc n ≡ at + (1 + n) = omega arith in
        subst (SoFar (closing_step h q) l) z (kept_taken s (suc n) (passed t a)).next

  -- a way out
  pub out_hidden : SoFar (closing_step h q) l at → (m : Mark) → q ≡ mark_of m → length l - at < 2 → (h && eqb (l ! at) backslash) ≡ true
      → None ≡ closed_of (walk (closing_step h (mark_of m)) 0 l)
  out_hidden s m e r t = rw (← e, stops_over s 1 [] i (omega arith) (step_hidden t))

  pub out_lone : SoFar (closing_step h q) l at → (m : Mark) → q ≡ mark_of m → (h && eqb (l ! at) backslash) ≡ false → l ! at ≡ q
      → (x : ℕ) → x ≡ l ! (at + 1) → (x ≡ q → ⊥) → Some at ≡ closed_of (walk (closing_step h (mark_of m)) 0 l)
  out_lone s m e t a x n b =
      let k = step_lone t a (λ f. b (n ∙ f)) in rw (← e, stops_here s i k, size_here s i k)

pub out_end : (h : Bool) (q : ℕ) (l : List ℕ) (at : ℕ) → SoFar (closing_step h q) l at → (m : Mark) → q ≡ mark_of m → length l ≤ at
    → None ≡ closed_of (walk (closing_step h (mark_of m)) 0 l)
out_end h q l at s m e r = rw (← e, stops_end s r)
