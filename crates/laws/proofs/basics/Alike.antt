-- A text found at a place of another, byte by byte, each byte of the other read through a function. Assumes nothing.
use mathlib.Core.Path.{◌≡◌, refl, sym, ap, ◌∙◌}
use mathlib.Core.Bool.{Bool, true, false, ◌&&◌, and-false}
use mathlib.Core.List.{List, [], ◌∷◌, map}
use Prim.Native.Nat.{ℕ, suc, ◌+◌, ◌-◌, ◌≤◌, ◌<◌}
use native.Mathlib.Numerals.{add-one}
use native.Mathlib.Omega.{arith}
use lib.Dec.{eqb}
use lib.ListN.{length, take, drop, length-drop, drop_of_length-le}
use lib.Seq.{drop-cons}
use borrow.Author.Tests.{eq-eqb, ne_eqb}
use Rattle.meaning.specs.Bytes.{◌!◌, same, starts}
use Rattle.laws.proofs.basics.Tests.{eqb_sym}

-- p begins what f makes of each byte of a text
abbrev pub alike : (ℕ → ℕ) → List ℕ → List ℕ → Bool
alike f [] u = true
alike f (b ∷ p) [] = false
alike f (b ∷ p) (c ∷ u) = eqb (f c) b && alike f p u

alike_starts : (p u : List ℕ) → alike (λ b. b) p u ≡ starts p u
alike_starts [] u = refl
alike_starts (b ∷ p) [] = refl
alike_starts (b ∷ p) (c ∷ u) = rw (eqb_sym c b) (ap (λ (x : Bool). eqb b c && x) (alike_starts p u))

pub alike_same : (f : ℕ → ℕ) (p u : List ℕ) → alike f p u ≡ same (map f (take (length p) u)) p
alike_same f [] u = refl
alike_same f (b ∷ p) [] = refl
alike_same f (b ∷ p) (c ∷ u) = ap (λ (x : Bool). eqb (f c) b && x) (alike_same f p u)

pub alike_long : (f : ℕ → ℕ) (p u : List ℕ) → length u < length p → alike f p u ≡ false
alike_long f [] u h = absurd (omega arith)
alike_long f (b ∷ p) [] h = refl
alike_long f (b ∷ p) (c ∷ u) h = ap (λ (x : Bool). eqb (f c) b && x) (alike_long f p u (omega arith)) ∙ and-false (eqb (f c) b)

-- what code that goes by bytes answers
pub starts_by : (p u : List ℕ) (x : Bool) → x ≡ alike (λ b. b) p u → x ≡ starts p u
starts_by p u x e = e ∙ alike_starts p u

pub starts_empty : (p u : List ℕ) → length p ≡ 0 → true ≡ starts p u
starts_empty [] u h = refl
starts_empty (b ∷ p) u h = absurd (omega arith)

-- THE BYTES SO FAR: i bytes of p stand at `at`
pub record AlikeSoFar (f : ℕ → ℕ) (p l : List ℕ) (at i : ℕ) : Type 0 where
  pub rest : alike f p (drop at l) ≡ alike f (drop i p) (drop (at + i) l)
  pub room : at + length p ≤ length l

module _ (f : ℕ → ℕ) (p l : List ℕ) (at : ℕ) where
  pub alike_past : length l ≤ at → (length p ≡ 0 → ⊥) → false ≡ alike f p (drop at l)
  alike_past h z = sym (alike_long f p (drop at l) (omega (arith, length-drop at l)))

  pub alike_short : length l - at < length p → false ≡ alike f p (drop at l)
  alike_short h = sym (alike_long f p (drop at l) (omega (arith, length-drop at l)))

  pub alike_none : at < length l → length p ≤ length l - at → AlikeSoFar f p l at 0
  alike_none i h = let z : at + 0 ≡ at = omega arith in record { rest = rw z; room = omega arith }

  module _ (i : ℕ) (s : AlikeSoFar f p l at i) where
    pub alike_end : length p ≤ i → true ≡ alike f p (drop at l)
    alike_end h = sym (s.rest ∙ rw (drop_of_length-le p h))

    module _ (h : i < length p) (x : ℕ) (ex : x ≡ f (l ! (at + i))) where
      alike_at : alike f p (drop at l) ≡ (eqb x (p ! i) && alike f (drop (suc i) p) (drop (suc (at + i)) l))
      alike_at =
          let j : at + i < length l = omega (arith, s.room) in
          s.rest ∙ rw (drop-cons p i 0 h, drop-cons l (at + i) 0 j, ← ex)

      pub alike_more : x ≡ p ! i → AlikeSoFar f p l at (i + 1)
      alike_more e =
          let z : suc (at + i) ≡ at + suc i = omega arith in
          record { rest = rw add-one (alike_at ∙ rw (eq-eqb x (p ! i) e, z)); room = s.room }

      pub alike_not : (x ≡ p ! i → ⊥) → false ≡ alike f p (drop at l)
      alike_not e = sym (alike_at ∙ rw (ne_eqb x (p ! i) e))
