-- What is put behind a line's bytes, piece by piece: two pieces are put as one. Assumes nothing.
use mathlib.Core.Path.{◌≡◌, refl, ap, sym, ◌∙◌}
use mathlib.Core.List.{List, [], ◌∷◌, ◌++◌, append_assoc, append-nil}
use Prim.Native.Nat.{ℕ, zero, suc, ◌+◌, ◌-◌, ◌≤◌}
use native.Mathlib.Omega.{arith}
use lib.ListN.{length, take, drop, length-append, length-drop, drop_of_length-le}
use lib.Seq.{take_all, take_at, length-take-le}
use borrow.Author.Tests.{le-leb}
use Rattle.meaning.specs.Answers.{filled}
use Rattle.leaves.specs.Puts.{Puts}
use Rattle.records.specs.Adding.{pushed}

-- as many of v, then of w in the places that are left
two : (n : ℕ) (v w : List ℕ) → take n v ++ take (n - length (take n v)) w ≡ take n (v ++ w)
two zero v w = refl
two (suc n) [] w = ap (λ (k : ℕ). take k w) (let e : suc n - 0 ≡ suc n = omega arith in e)
two (suc n) (x ∷ v) w =
    let e : suc n - suc (length (take n v)) ≡ n - length (take n v) = omega arith in
    rw e (ap (x ∷◌) (two n v w))

pub pushed_more : (b v w : List ℕ) → pushed (pushed b v) w ≡ pushed b (v ++ w)
pushed_more b v w =
    let n = 192 - length b in
    let e : 192 - length (b ++ take n v) ≡ n - length (take n v) = rw (length-append b (take n v)) (omega arith) in
    rw e (append_assoc b (take n v) (take (n - length (take n v)) w) ∙ ap (b ++◌) (two n v w))

-- what is put at once behind the first n of the 192 places, where there is room for all of it
pub pushed_at_once : (places v rest : List ℕ) (n end : ℕ) → length places ≡ 192 → n ≤ 192 → length v ≤ 192 - n → end ≡ n + length v
    → take end (take n places ++ (v ++ rest)) ≡ pushed (take n places) v
pushed_at_once places v rest n end l h k e =
    let m : length (take n places) ≡ n = length-take-le n places (omega arith) in
    let whole : take (192 - length (take n places)) v ≡ v = take_all (192 - length (take n places)) v (omega arith) in
    let long : length (take n places ++ v) ≡ end = length-append (take n places) v ∙ omega arith in
    rw whole (ap (take end) (sym (append_assoc (take n places) v rest)) ∙ take_at (take n places ++ v) rest end (omega arith))

-- the same, as a copy puts it
pub pushed_by_copy : (places v last : List ℕ) (n end r : ℕ) → length places ≡ 192 → n ≤ 192 → length v ≤ 192 - n → end ≡ n + length v
    → Puts v (take (end - n) (drop n places)) r last → take end (take n places ++ (last ++ drop (end - n) (drop n places))) ≡ pushed (take n places) v
unfolding filled
pushed_by_copy places v last n end r l h k e p =
    let lent = take (end - n) (drop n places) in
    let size : length lent ≡ length v = length-take-le (end - n) (drop n places) (omega (arith, length-drop n places)) ∙ omega arith in
    let put : last ≡ v =
    p.buffer ∙ rw (le-leb (length v) (length lent) (omega arith), drop_of_length-le lent {i = length v} (omega arith)) (append-nil v) in
    rw put (pushed_at_once places v (drop (end - n) (drop n places)) n end l h k e)
