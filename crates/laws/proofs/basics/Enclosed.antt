-- A body between two marks. Assumes nothing.
use mathlib.Core.Path.{◌≡◌, refl}
use mathlib.Core.Bool.{Bool, true, false, ◌||◌}
use mathlib.Core.List.{List, [], ◌∷◌, ◌++◌}
use Prim.Native.Nat.{ℕ, suc, ◌+◌, ◌-◌, ◌<◌}
use native.Mathlib.Omega.{arith}
use lib.Dec.{eqb}
use lib.ListN.{length, length-append}
use lib.Seq.{get_or-append_seam, get_or-append-add, take-append_seam, drop-append_seam}
use borrow.Author.Tests.{lt-ltb}
use Rattle.meaning.specs.Bytes.{has, part}
use Rattle.meaning.specs.Spelling.{encloses}
use Rattle.laws.proofs.basics.Tests.{eqb_same}

pub has_append : (b : ℕ) (u t : List ℕ) → has b (u ++ t) ≡ has b u || has b t
has_append b [] t = refl
has_append b (c ∷ u) t = go (eqb b c) (has_append b u t)
  where
    go : (x : Bool) → has b (u ++ t) ≡ has b u || has b t → (x || has b (u ++ t)) ≡ ((x || has b u) || has b t)
    go true ih = refl
    go false ih = ih

-- behind an opening: of the first law o is what stands before its mark, of the second all of it
module _ (o : List ℕ) (q : ℕ) (body : List ℕ) where
  pub encloses_behind : encloses (length o) q (o ++ (q ∷ (body ++ (q ∷ [])))) ≡ true
  unfolding encloses
  encloses_behind =
      let n : length (o ++ (q ∷ (body ++ (q ∷ [])))) ≡ suc (suc (length o + length body)) = simp length-append (omega arith) in
      let l : suc (length o) < suc (suc (length o + length body)) = omega arith in
      let e : suc (suc (length o + length body)) - 1 ≡ length o + suc (length body) = omega arith in
      rw (
        n,
        lt-ltb (suc (length o)) (suc (suc (length o + length body))) l,
        get_or-append_seam o q (body ++ (q ∷ [])) 0,
        eqb_same q,
        e,
        get_or-append-add o (q ∷ (body ++ (q ∷ []))) (suc (length body)) 0,
        get_or-append_seam body q [] 0,
      )
      (eqb_same q)

  pub part_behind : part (length o) (length (o ++ (body ++ (q ∷ []))) - 1) (o ++ (body ++ (q ∷ []))) ≡ body
  part_behind =
      let e : length (o ++ (body ++ (q ∷ []))) - 1 - length o ≡ length body = simp length-append (omega arith) in
      rw (drop-append_seam o (body ++ (q ∷ [])), e) (take-append_seam body (q ∷ []))

-- between two marks
module _ (q : ℕ) (body : List ℕ) where
  pub encloses_body : encloses 0 q (q ∷ (body ++ (q ∷ []))) ≡ true
  encloses_body = encloses_behind [] q body

  pub part_body : part 1 (length (q ∷ (body ++ (q ∷ []))) - 1) (q ∷ (body ++ (q ∷ []))) ≡ body
  part_body = part_behind (q ∷ []) q body
