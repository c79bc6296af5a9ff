-- What std says of a slice's start, in the words of `meaning`, and the same by the bytes at its front. Assumes nothing.
use Rattle.std.proofs.Common.{◌≡◌, ℕ, suc, ◌+◌, ◌-◌, ◌<◌, ◌≤◌, ◌&&◌, ◌⊎◌, inl, inr, Bool, true, false, eqb, leb, List, [], ◌∷◌, length, take, drop, refl, ap, ◌∙◌, sym, subst, arith, drop_of_length-le, drop-cons, ne_eqb}
use Prim.Native.Nat.{min}
use native.Mathlib.Numerals.{add-one}
use borrow.Author.Tests.{eq-eqb}
use Rattle.std.proofs.lemmas.Bool.{le-leb}
use Rattle.std.proofs.lemmas.Bool.Decides.{leb_tells}
use Rattle.std.specs.List.{starts_with}
use Rattle.meaning.specs.Bytes.{◌!◌, starts}
use Rattle.leaves.proofs.RunSteps.{rest_all}

starts_by : (p t : List ℕ) → starts_with eqb t p ≡ starts p t
starts_by [] t = refl
starts_by (b ∷ p) [] = refl
starts_by (b ∷ p) (c ∷ t) = ap (eqb b c &&◌) (starts_by p t)

pub starts_told : (p t u : List ℕ) (r : Bool) → u ≡ t → r ≡ starts_with eqb u p → r ≡ starts p t
starts_told p t u r e q = q ∙ subst (λ (v : List ℕ). starts_with eqb v p ≡ starts p t) (sym e) (starts_by p t)

-- what is asked of a text's rest, of the rest itself
pub starts_there : (p t u : List ℕ) (r : Bool) → u ≡ t → r ≡ starts p u → r ≡ starts p t
starts_there p t u r e q = q ∙ ap (starts p) e

-- nothing is there but the empty text
pub starts_none : (p t : List ℕ) → length t ≡ 0 → eqb (length p) 0 ≡ starts p t
starts_none [] t h = refl
starts_none (b ∷ p) [] h = ne_eqb (suc (length p)) 0 (λ e. absurd (omega arith))
starts_none (b ∷ p) (c ∷ t) h = absurd (omega arith)

-- a text begins with no longer one
pub starts_short : (p t : List ℕ) → length t < length p → false ≡ starts p t
starts_short [] t h = absurd (omega arith)
starts_short (b ∷ p) [] h = refl
starts_short (b ∷ p) (c ∷ t) h = go (eqb b c) (starts_short p t (omega arith))
  where
    go : (x : Bool) → false ≡ starts p t → false ≡ (x && starts p t)
    go true e = e
    go false e = refl

-- another first byte: only the empty text is there
pub starts_other : (p t : List ℕ) (x y : ℕ) → x ≡ t ! 0 → y ≡ p ! 0 → (x ≡ y → ⊥) → eqb (length p) 0 ≡ starts p t
starts_other [] t x y ex ey q = refl
starts_other (b ∷ p) [] x y ex ey q = ne_eqb (suc (length p)) 0 (λ e. absurd (omega arith))
starts_other (b ∷ p) (c ∷ t) x y ex ey q =
    ne_eqb (suc (length p)) 0 (λ e. absurd (omega arith)) ∙ sym (ap (◌&& starts p t) (ne_eqb b c (λ e. q (ex ∙ sym e ∙ sym ey))))

-- THE FRONT SO FAR: i bytes are alike, and if the other text has room what stands behind them tells
abbrev pub FrontAlike : List ℕ → List ℕ → ℕ → Type 0
FrontAlike p t i = length p ≤ length t → starts p t ≡ starts (drop i p) (drop i t)

pub front_first : (p t : List ℕ) (x y : ℕ) → x ≡ t ! 0 → y ≡ p ! 0 → x ≡ y → FrontAlike p t 1
front_first [] t x y ex ey q f = refl
front_first (b ∷ p) [] x y ex ey q f = absurd (omega arith)
front_first (b ∷ p) (c ∷ t) x y ex ey q f = ap (◌&& starts p t) (eq-eqb b c (sym ey ∙ sym q ∙ ex))

-- a byte of the front, which ends at n
module _ (p t : List ℕ) (i n x : ℕ) (s : FrontAlike p t i) (e : n ≡ min (length p) 16) (h : i < n) (ex : x ≡ t ! i) where
  front_byte : length p ≤ length t → starts p t ≡ (eqb (p ! i) x && starts (drop (suc i) p) (drop (suc i) t))
  front_byte f =
      let k : i < length p = omega (arith, e, h) in
      let j : i < length t = omega (arith, k, f) in
      s f ∙ rw (drop-cons p i 0 k, drop-cons t i 0 j, ex)

  pub front_more : x ≡ p ! i → FrontAlike p t (i + 1)
  front_more q f = rw add-one (front_byte f ∙ rw (eq-eqb (p ! i) x (sym q)))

  pub front_not : (x ≡ p ! i → ⊥) → false ≡ starts p t
  front_not q = go (leb_tells (length p) (length t))
    where
      go : ((leb (length p) (length t) ≡ true) × (length p ≤ length t)) ⊎ ((leb (length p) (length t) ≡ false) × (length t < length p)) → false ≡ starts p t
      go (inl f) = sym (front_byte f.1 ∙ rw (ne_eqb (p ! i) x (λ z. q (sym z))))
      go (inr f) = starts_short p t f.1

-- the front's end, where there is room
module _ (p t : List ℕ) (i n : ℕ) (s : FrontAlike p t i) (e : n ≡ min (length p) 16) (a : n ≤ i) (f : length p ≤ length t) where
  pub front_alone : length p ≤ 16 → leb (length p) 16 ≡ starts p t
  front_alone l = let m : length p ≤ i = omega (arith, e, l, a) in le-leb (length p) 16 l ∙ sym (s f ∙ rw (drop_of_length-le p m))

  pub front_rest : 16 < length p → (1 ≤ n → i ≤ n) → (r : Bool) → r ≡ starts (take (length p - n) (drop n p)) (take (length t - n) (drop n t)) → r ≡ starts p t
  front_rest l b r q =
      let m : 1 ≤ n = omega (arith, e, l) in
      let k : i ≡ n = omega (arith, a, b m) in
      q ∙ rw (rest_all n t, rest_all n p) (sym (subst (FrontAlike p t) k s f))
