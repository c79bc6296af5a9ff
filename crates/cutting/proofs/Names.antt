-- A charset's name with its mark. Assumes nothing.
use mathlib.Core.Path.{◌≡◌, sym, ap, ◌∙◌}
use mathlib.Core.Bool.{Bool, true, false, and-false}
use mathlib.Core.List.{List}
use Prim.Native.Nat.{ℕ, suc, ◌+◌}
use native.Mathlib.Omega.{arith}
use lib.ListN.{drop}
use lib.Seq.{get_or-drop}
use borrow.Author.Tests.{lt-ltb}
use Rattle.meaning.specs.Bytes.{◌!◌, span, is_mark, in_name}
use Rattle.meaning.specs.Cutting.{named}

-- A NAME AND A MARK, by the length of the name
module _ (l : List ℕ) (at n : ℕ) (e : n ≡ span in_name (drop at l)) where
  pub named_empty : n ≡ 0 → 0 ≡ named (drop at l)
  unfolding named
  named_empty z = rw (← e, z)

  module _ (b : ℕ) (eb : b ≡ l ! (at + n)) (x : Bool) (ex : x ≡ is_mark b) where
    mark_behind : is_mark (drop at l ! n) ≡ x
    mark_behind = ap is_mark (get_or-drop at l n 0 ∙ sym eb) ∙ sym ex

    pub named_marked : (n ≡ 0 → ⊥) → x ≡ true → n + 2 ≡ named (drop at l)
    unfolding named
    named_marked z m = let two : n + 2 ≡ suc (suc n) = omega arith in rw (← e, lt-ltb 0 n (omega arith), mark_behind, m) two

    pub named_unmarked : x ≡ false → 0 ≡ named (drop at l)
    unfolding named
    named_unmarked m = rw (← e, mark_behind, m, and-false)
