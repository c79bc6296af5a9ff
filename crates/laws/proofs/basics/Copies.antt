-- A copy, byte by byte, to a buffer's start: where a loop stands, a turn, and the end. Assumes nothing.
use mathlib.Core.Path.{◌≡◌, refl, ap, sym, ◌∙◌}
use mathlib.Core.List.{List, ◌∷◌, ◌++◌}
use Prim.Native.Nat.{ℕ, suc, ◌+◌, ◌≤◌, ◌<◌}
use native.Mathlib.Numerals.{add-one}
use native.Mathlib.Omega.{arith}
use lib.ListN.{length, take, drop, get_or, set, length-set}
use lib.Seq.{set_at, take-suc, take_all, drop-cons, length-take-le, append_snoc}

-- of b into a buffer that held d: the first i bytes are there
pub record Copying (b d out : List ℕ) (i : ℕ) : Type 0 where
  pub inside : i ≤ length b
  pub room : length b ≤ length d
  pub put : out ≡ take i b ++ drop i d
  pub same : length out ≡ length d

pub copying_none : (b d : List ℕ) → length b ≤ length d → Copying b d d 0
copying_none b d h = record { inside = omega arith; room = h; put = refl; same = refl }

module _ {b d out : List ℕ} {i : ℕ} (c : Copying b d out i) where
  pub copying_turn : i < length b → Copying b d (set out i (get_or b i 0)) (i + 1)
  copying_turn h = record {
    inside = omega arith;
    room = c.room;
    put =
        let k : i < length d = omega (arith, c.room) in
        let e : set (take i b ++ drop i d) i (get_or b i 0) ≡ take i b ++ (get_or b i 0 ∷ drop (suc i) d) =
        rw (drop-cons d i 0 k) (set_at (take i b) (get_or d i 0) (drop (suc i) d) (get_or b i 0) i (length-take-le i b c.inside)) in
        ap (λ (o : List ℕ). set o i (get_or b i 0)) c.put ∙ e
        ∙ sym (rw (add-one i, take-suc b i 0 h) (append_snoc (take i b) (get_or b i 0) (drop (suc i) d)));
    same = length-set out i (get_or b i 0) ∙ c.same;
  }

  pub copying_all : length b ≤ i → out ≡ b ++ drop (length b) d
  copying_all h =
      let e : i ≡ length b = omega (arith, c.inside) in
      c.put ∙ rw e (ap (◌++ drop (length b) d) (take_all (length b) b (omega arith)))
