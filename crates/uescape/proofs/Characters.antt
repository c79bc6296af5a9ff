-- One character that may be an escape; and a quoted argument, which is both. Assumes nothing.
use mathlib.Core.Path.{◌≡◌, refl, sym, ap, ◌∙◌}
use mathlib.Core.Bool.{Bool, true, false, ◌&&◌, ◌||◌, not, and-false, false≢true, or_assoc, or-false}
use mathlib.Core.List.{List, [], ◌∷◌}
use Prim.Native.Nat.{ℕ, zero, suc, ◌-◌}
use native.Mathlib.Omega.{arith}
use lib.Dec.{eqb, ltb, eqb-suc-suc, eqb-zero-suc}
use lib.ListN.{length, take, drop}
use borrow.Author.Tests.{eq-eqb, ne_eqb, not-true, not-false}
use Rattle.meaning.specs.Bytes.{◌!◌, part, within, quote, digit}
use Rattle.meaning.specs.Chars.{Due, due, broken, lead, laters, width, width_by, space}
use Rattle.meaning.specs.Spelling.{encloses, is_one, legal_escape}
use Rattle.laws.proofs.basics.Lists.{part_tail}
use Rattle.laws.proofs.cutting.Arguments.{argument_inner}
use Rattle.uescape.specs.declared.Argument.TheVariants.{Legal, Illegal}
use Rattle.uescape.specs.Clauses.{all_later, legal_by, argument_of}

-- ONE CHARACTER: as many bytes as the first says, the later ones 80 to BF hex
swap : (x y z : Bool) → (x && (y && z)) ≡ (y && (x && z))
swap true y z = refl
swap false y z = sym (and-false y)

laters_all : (n : ℕ) (t : List ℕ) → laters n t ≡ (eqb (suc n) (suc (length t)) && all_later t)
laters_all zero [] = refl
laters_all zero (b ∷ t) = rw (ne_eqb 1 (suc (suc (length t))) (λ e. omega arith))
laters_all (suc n) [] = rw (ne_eqb (suc (suc n)) 1 (λ e. omega arith))
laters_all (suc n) (b ∷ t) = rw (laters_all n t, eqb-suc-suc (suc n) (suc (length t))) (swap (within 0x80 0xBF b) (eqb (suc n) (suc (length t))) (all_later t))

one_all : (d : Due) (t : List ℕ) → is_one d t ≡ (eqb (width_by d) (suc (length t)) && all_later t)
one_all broken t = rw (eqb-zero-suc (length t))
one_all (due n lo hi) t = laters_all n t

-- by the first byte's width
pub legal_not : (l : List ℕ) → (length l ≡ 0 → ⊥) → (w : ℕ) → w ≡ width (l ! 0) → (w ≡ length l → ⊥) → false ≡ legal_escape l
unfolding width
legal_not [] z w ew n = absurd (z refl)
legal_not (b ∷ t) z w ew n = rw (one_all (lead b) t, ← ew, ne_eqb w (suc (length t)) n)

pub legal_by_lem : (l : List ℕ) → (length l ≡ 0 → ⊥) → (w : ℕ) → w ≡ width (l ! 0) → w ≡ length l → (x : Bool) → x ≡ all_later (take (length l - 1) (drop 1 l))
    → (d : ℕ) → d ≡ digit (l ! 0) → (s : ℕ) → s ≡ space (drop 0 l)
    → (x && ltb 15 d && not (eqb (l ! 0) 43 || eqb (l ! 0) 39 || eqb (l ! 0) 34) && eqb s 0) ≡ legal_escape l
unfolding width
legal_by_lem [] z w ew e x ex d ed s es = absurd (z refl)
legal_by_lem (b ∷ t) z w ew e x ex d ed s es =
    let ey : x ≡ all_later t = ex ∙ ap (λ (u : List ℕ). all_later u) (part_tail (b ∷ t) 1) in
    rw (one_all (lead b) t, ← ew, eq-eqb w (suc (length t)) e, ← ey, ← ed, ← es) (simp (or_assoc, or-false))

-- AN ARGUMENT in quotes
legal_some : (e : List ℕ) → legal_escape e ≡ true → Legal ≡ legal_by e
legal_some [] h = absurd (false≢true h)
legal_some (b ∷ e) h = refl

module _ (a : List ℕ) (x : Bool) (ex : x ≡ encloses 0 quote a) where
  pub argument_bare : not x ≡ true → Illegal ≡ argument_of a
  unfolding argument_of
  argument_bare n = rw (argument_inner a, ← ex, not-true x n)

  module _ (n : not x ≡ false) (y : Bool) (ey : y ≡ legal_escape (take (length a - 1 - 1) (drop 1 a))) where
    pub argument_legal : y ≡ true → Legal ≡ argument_of a
    unfolding argument_of
    argument_legal t = rw (argument_inner a, ← ex, not-false x n, ← ey, t) (legal_some (part 1 (length a - 1) a) (sym ey ∙ t))

    pub argument_illegal : y ≡ false → Illegal ≡ argument_of a
    unfolding argument_of
    argument_illegal t = rw (argument_inner a, ← ex, not-false x n, ← ey, t)
