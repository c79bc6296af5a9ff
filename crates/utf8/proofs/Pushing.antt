-- The UTF-8 step by its states, a loop that pushes byte after byte. Assumes nothing.
use Rattle.std.proofs.Common.{◌≡◌, ℕ, suc, ◌+◌, ◌<◌, ◌≤◌, Bool, true, false, List, length, get_or, drop, refl, add-one, arith, drop_of_length-le, drop-cons}
use Rattle.meaning.specs.Bytes.{within}
use Rattle.std.specs.Prelude.{if◌then◌else◌}
use Rattle.meaning.specs.Chars.{Due, due, broken, push, pushes}
use Rattle.utf8.specs.declared.tail.Utf8Tail.{Utf8Tail}
use Rattle.utf8.specs.declared.tail.Utf8Tail.TheVariants.{Broken}
use Rattle.utf8.specs.Tails.{due_of, due_next}

-- a byte that is due leads to the next state, and another one breaks
pub push_next : (next r : Utf8Tail) (n lo hi b : ℕ) → due_of next ≡ due n 0x80 0xBF → r ≡ due_next lo hi next b → due_of r ≡ push (due (suc n) lo hi) b
push_next next r n lo hi b q e = rw e (go (within lo hi b))
  where
    go : (x : Bool) → due_of (if x then next else Broken) ≡ (if x then due n 0x80 0xBF else broken)
    go true = q
    go false = refl

-- BYTE AFTER BYTE: what is left to push, pushed from the state at hand, gives what all bytes give
pub record Pushing (d : Due) (s : List ℕ) (now : Due) (i : ℕ) : Type 0 where
  pub inside : i ≤ length s
  pub same : pushes now (drop i s) ≡ pushes d s

pub pushing_start : (d : Due) (s : List ℕ) → Pushing d s d 0
pushing_start d s = record { inside = omega arith; same = refl }

module _ {d : Due} {s : List ℕ} {now : Due} {i : ℕ} (v : Pushing d s now i) where
  pub pushing_end : length s ≤ i → now ≡ pushes d s
  pushing_end h = rw (drop_of_length-le s h) at v.same

  pub pushing_on : i < length s → (next : Due) → next ≡ push now (get_or s i 0) → Pushing d s next (i + 1)
  pushing_on h next e = record { inside = omega arith; same = rw (e, add-one i) (rw (drop-cons s i 0 h) at v.same) }
