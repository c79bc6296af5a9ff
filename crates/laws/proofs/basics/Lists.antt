-- Facts about lists that the library lacks. Assumes nothing.
use mathlib.Core.Path.{◌≡◌, ap, sym, ◌∙◌}
use mathlib.Core.List.{List, [], ◌∷◌}
use Prim.Native.Nat.{ℕ, zero, suc, ◌+◌, ◌-◌, ◌<◌}
use native.Mathlib.Nat.{zero-add, suc-add}
use native.Mathlib.Omega.{arith}
use lib.ListN.{length, take, drop, set, length-drop, length-set}
use lib.Seq.{take-nil, take_all, drop-cons, drop-set-lt, get_or-set_same}

-- the part from a place to the end
pub part_tail : (l : List ℕ) (k : ℕ) → take (length l - k) (drop k l) ≡ drop k l
part_tail l k = take_all (length l - k) (drop k l) (omega (arith, length-drop k l))

-- a front of m bytes more, without its first n
pub drop_take : (n m : ℕ) (l : List ℕ) → drop n (take (n + m) l) ≡ take m (drop n l)
drop_take zero m l = ap (λ (k : ℕ). take k l) (zero-add m)
drop_take (suc n) m [] = ap (drop (suc n)) (take-nil (suc n + m)) ∙ sym (take-nil m)
drop_take (suc n) m (x ∷ xs) = ap (λ (k : ℕ). drop (suc n) (take k (x ∷ xs))) (suc-add n m) ∙ drop_take n m xs

-- from a place on that was set
pub drop_set_here : (l : List ℕ) (i d : ℕ) → i < length l → drop i (set l i d) ≡ d ∷ drop (suc i) l
drop_set_here l i d h =
    drop-cons (set l i d) i 0 (rw (length-set l i d) h) ∙ rw (get_or-set_same l i d 0 h, drop-set-lt (suc i) l i d (omega arith))
