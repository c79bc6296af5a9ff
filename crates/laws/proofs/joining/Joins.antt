-- Where a loop stands that reads the segments of a text, one after the other: what they mean so far, and that the rest is read from there. Over every way
-- to read a segment, so that strings and bit strings share it. Assumes nothing.
use mathlib.Core.Path.{◌≡◌, refl, ap, sym, ◌∙◌}
use mathlib.Core.List.{List, [], ◌++◌, append_assoc, append-nil}
use Prim.Native.Nat.{ℕ, suc, ◌+◌, ◌≤◌, ◌<◌}
use native.Mathlib.Nat.{zero-add, add-zero}
use native.Mathlib.Omega.{arith}
use lib.ListN.{length, drop, length-append}
use Rattle.meaning.specs.Walk.{Step, give, stop, Trace, ended, stopped, kept, gave, walk, size}
use Rattle.meaning.specs.Reading.{Value, means, fails, onward, both, each}
use Rattle.laws.proofs.walking.Walks.{graft}
use Rattle.laws.proofs.walking.Courses.{graft_assoc, SoFar, so_far_none, so_far_give, so_far_end, so_far_stop}
use Rattle.laws.proofs.joining.Joining.{fails≢means, both_means}

module _ (f : List ℕ → Value) where
  -- a course that means something, and another behind it
  pub each_graft : (p q : Trace) (v : List ℕ) → each f p ≡ means v → each f (graft p q) ≡ both (means v) (onward (size p) (each f q))
  each_graft ended q v e = let z : v ≡ [] = cc in rw z (go (each f q))
    where
      go : (y : Value) → y ≡ both (means []) (onward 0 y)
      go (means w) = refl
      go (fails p) = ap fails (sym (zero-add p))
  each_graft stopped q v e = absurd (fails≢means 0 v e)
  each_graft (kept b p) q v e = absurd (fails≢means 0 v e)
  each_graft (gave n s p) q v e =
      let m = both_means (f s) (each f p) (suc n) v e in
      with_parts m.0 m.1 m.2 m.4 (each_graft p q m.1 m.3)
    where
      go : (a b : List ℕ) (y : Value) → both (means a) (onward (suc n) (both (means b) (onward (size p) y)))
          ≡ both (means (a ++ b)) (onward (suc (n + size p)) y)
      go a b (means w) = ap means (sym (append_assoc a b w))
      go a b (fails r) = ap fails (omega arith)

      with_parts : (a b : List ℕ) → f s ≡ means a → v ≡ a ++ b → each f (graft p q) ≡ both (means b) (onward (size p) (each f q))
          → both (f s) (onward (suc n) (each f (graft p q))) ≡ both (means v) (onward (suc (n + size p)) (each f q))
      with_parts a b x z ih = rw (x, ih, z) (go a b (each f q))

  -- the first `at` bytes are read, and mean n bytes
  pub record Joined (step : List ℕ → Step) (l : List ℕ) (at n : ℕ) : Type 0 where
    pub so_far : SoFar step l at
    pub got : List ℕ
    pub reads : each f so_far.course ≡ means got
    pub count : length got ≡ n

  unfoldable pub joined_none : (step : List ℕ → Step) (l : List ℕ) → Joined step l 0 0
  unfolding so_far_none
  joined_none step l = record { so_far = so_far_none step l; got = []; reads = refl; count = refl }

  module _ {step : List ℕ → Step} {l : List ℕ} {at n : ℕ} (j : Joined step l at n) where
    -- one segment more
    unfoldable pub joined_more : (k : ℕ) (s w : List ℕ) (at' n' : ℕ) → at + suc k ≤ length l → step (drop at l) ≡ give k s → f s ≡ means w
        → at + suc k ≡ at' → n + length w ≡ n' → Joined step l at' n'
    unfolding so_far_give
    joined_more k s w at' n' h e r a b = record {
      so_far = so_far_give j.so_far k s at' h e a;
      got = j.got ++ w;
      reads =
          each_graft j.so_far.course (gave k s ended) j.got j.reads
          ∙ ap (λ (x : Value). both (means j.got) (onward (size j.so_far.course) (both x (onward (suc k) (means []))))) r
          ∙ ap (λ (x : List ℕ). means (j.got ++ x)) (append-nil w);
      count = length-append j.got w ∙ ap (λ (x : ℕ). x + length w) j.count ∙ b;
    }

    -- the ways out: nothing is left; a segment is refused; what is left is no segment
    pub joined_end : length l ≤ at → each f (walk step 0 l) ≡ means j.got
    joined_end h = ap (each f) (so_far_end j.so_far h) ∙ j.reads

    pub joined_refused : (k : ℕ) (s : List ℕ) (p : ℕ) → at + suc k ≤ length l → step (drop at l) ≡ give k s → f s ≡ fails p
        → each f (walk step 0 l) ≡ fails (at + p)
    unfolding so_far_give
    joined_refused k s p h e r =
        let g = so_far_give j.so_far k s (at + suc k) h e refl in
        ap (each f) (g.rest ∙ graft_assoc j.so_far.course (gave k s ended) (walk step 0 (drop (at + suc k) l)))
        ∙ each_graft j.so_far.course (gave k s (walk step 0 (drop (at + suc k) l))) j.got j.reads
        ∙ ap (λ (x : Value). both (means j.got) (onward (size j.so_far.course) (both x (onward (suc k) (each f (walk step 0 (drop (at + suc k) l))))))) r
        ∙ ap (λ (x : ℕ). fails (x + p)) j.so_far.place

    pub joined_remainder : at < length l → step (drop at l) ≡ stop → each f (walk step 0 l) ≡ fails at
    joined_remainder h e =
        ap (each f) (so_far_stop j.so_far h e) ∙ each_graft j.so_far.course stopped j.got j.reads
        ∙ ap fails (add-zero (size j.so_far.course) ∙ j.so_far.place)
