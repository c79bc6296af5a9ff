-- Keys, cut out of a store and compared. Assumes nothing.
use mathlib.Core.Path.{◌≡◌, refl, sym, ap, ◌∙◌}
use mathlib.Core.Bool.{Bool, true, false, false≢true}
use mathlib.Core.List.{List, [], ◌∷◌}
use Prim.Native.Nat.{ℕ, zero, suc, ◌-◌}
use native.Mathlib.Omega.{arith}
use borrow.Author.Tests.{eqb-true}
use lib.Dec.{eqb}
use denote.Ref.{Bor}
use Rattle.meaning.specs.Answers.{IsPart, part_shown, part_place}
use Rattle.meaning.specs.Bytes.{◌!◌, same}
use Rattle.laws.proofs.basics.Tests.{and_left, and_right, eqb_same}
use Rattle.doubles.specs.Rows.{start_of, key_at, key_place}

-- CUT OUT
pub key_part : (store key : Bor (List ℕ)) (ends : List ℕ) (i from until : ℕ) → from ≡ start_of ends i → until ≡ ends ! i
    → IsPart (part_shown from until store.now) (part_place from until store) key
    → IsPart (key_at store.now ends i) (key_place store ends i) key
unfolding key_at
key_part store key ends i from until f u p = rw (f, u) at p

-- COMPARED: as lists, and as a test
pub same_refl : (s : List ℕ) → same s s ≡ true
same_refl [] = refl
same_refl (b ∷ s) = rw (eqb_same b) (same_refl s)

pub same_of : (s t : List ℕ) → s ≡ t → same s t ≡ true
same_of s t e = ap (same s) (sym e) ∙ same_refl s

pub same_true : (s t : List ℕ) → same s t ≡ true → s ≡ t
same_true [] [] h = refl
same_true [] (c ∷ t) h = absurd (false≢true h)
same_true (b ∷ s) [] h = absurd (false≢true h)
same_true (b ∷ s) (c ∷ t) h =
    let p = eqb-true b c (and_left (eqb b c) (same s t) h) in
    let q = same_true s t (and_right (eqb b c) (same s t) h) in
    cc

pub same_not : (s t : List ℕ) → (s ≡ t → ⊥) → same s t ≡ false
same_not s t f = go (same s t) refl
  where
    go : (x : Bool) → same s t ≡ x → same s t ≡ false
    go true e = absurd (f (same_true s t e))
    go false e = e

pub same_differ : (s t : List ℕ) → same s t ≡ false → s ≡ t → ⊥
same_differ s t e f = false≢true (sym e ∙ same_of s t f)
