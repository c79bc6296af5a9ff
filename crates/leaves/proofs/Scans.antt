-- Runs of bytes that pass a test: a loop over a block, and a scan by blocks of which the last may overlap the one before it. Assumes nothing.
use Rattle.std.proofs.Common.{◌≡◌, ℕ, zero, suc, ◌+◌, ◌-◌, ◌<◌, ◌≤◌, Bool, true, false, not, ◌&&◌, ◌||◌, eqb, List, [], ◌∷◌, length, get_or, drop, sym, refl, ap, ◌∙◌, arith, length-drop, drop-cons, drop-drop, eq-eqb, ne_eqb, eqb-true}
use mathlib.Core.Bool.{and_assoc, and-true, and-false, false≢true}
use borrow.Author.Tests.{eqb-false, not-true, not-false}
use Rattle.meaning.specs.Bytes.{has, span}
use Rattle.std.specs.Prelude.{if◌then◌else◌}
use Rattle.laws.proofs.basics.Tests.{and_left, and_right, eqb_sym}
use Rattle.leaves.specs.Blocks.{free_of, passes}

pub passes_append : (p : ℕ → Bool) (m n k : ℕ) (t : List ℕ) → k ≡ m + n → passes p k t ≡ (passes p m t && passes p n (drop m t))
passes_append p zero n k t e = let z : k ≡ n = omega arith in rw z
passes_append p (suc m) n zero t e = absurd (omega arith)
passes_append p (suc m) n (suc k) [] e = refl
passes_append p (suc m) n (suc k) (b ∷ t) e = rw (passes_append p m n k t (omega arith)) (sym (and_assoc (p b) (passes p m t) (passes p n (drop m t))))

pub passes_short : (p : ℕ → Bool) (n : ℕ) (t : List ℕ) → length t < n → passes p n t ≡ false
passes_short p zero t h = absurd (omega arith)
passes_short p (suc n) [] h = refl
passes_short p (suc n) (b ∷ t) h = rw (passes_short p n t (omega arith)) (and-false (p b))

pub passes_inside : (p : ℕ → Bool) (n : ℕ) (t : List ℕ) → passes p n t ≡ true → n ≤ length t
passes_inside p zero t h = omega arith
passes_inside p (suc n) [] h = absurd (false≢true h)
passes_inside p (suc n) (b ∷ t) h = let r = passes_inside p n t (and_right (p b) (passes p n t) h) in omega arith

-- a run that passes is a part of the longest
pub passes_span : (p : ℕ → Bool) (n : ℕ) (t : List ℕ) → passes p n t ≡ true → span p t ≡ n + span p (drop n t)
passes_span p zero t h = omega arith
passes_span p (suc n) [] h = absurd (false≢true h)
passes_span p (suc n) (b ∷ t) h = let r = passes_span p n t (and_right (p b) (passes p n t) h) in rw (and_left (p b) (passes p n t) h) (omega arith)

pub one_most : (x : Bool) (k : ℕ) → k ≡ (if x then 1 else 0) → k ≤ 1
one_most true k e = omega arith
one_most false k e = omega arith

-- THE LOOP over a block of n bytes: c of the first j pass
pub record Counting (p : ℕ → Bool) (n : ℕ) (s : List ℕ) (at c j : ℕ) : Type 0 where
  pub inside : j ≤ n
  pub room : at + n ≤ length s
  pub most : c ≤ j
  pub so_far : eqb c j ≡ passes p j (drop at s)

pub counting_start : (p : ℕ → Bool) (n : ℕ) (s : List ℕ) (at : ℕ) → at + n ≤ length s → Counting p n s at 0 0
counting_start p n s at h = record { inside = omega arith; room = h; most = omega arith; so_far = refl }

module _ {p : ℕ → Bool} {n : ℕ} {s : List ℕ} {at c j : ℕ} (v : Counting p n s at c j) where
  pub counting_on : j < n → (x : Bool) → x ≡ p (get_or s (at + j) 0) → (k : ℕ) → k ≡ (if x then 1 else 0) → Counting p n s at (c + k) (j + 1)
  counting_on h x e k ek =
      let l : at + j < length s = omega (arith, v.room) in
      let one : passes p 1 (drop j (drop at s)) ≡ x = ap (passes p 1) (drop-drop j at s ∙ drop-cons s (at + j) 0 l) ∙ and-true (p (get_or s (at + j) 0))
      ∙ sym e in
      record {
        inside = omega arith;
        room = v.room;
        most = omega (arith, v.most, one_most x k ek);
        so_far =
            more x k ek ∙ ap (◌&& x) v.so_far ∙ ap (passes p j (drop at s) &&◌) (sym one) ∙ sym (passes_append p j 1 (j + 1) (drop at s) refl);
      }
    where
      more : (x : Bool) (k : ℕ) → k ≡ (if x then 1 else 0) → eqb (c + k) (j + 1) ≡ (eqb c j && x)
      more true k e = go (eqb c j) refl
        where
          go : (y : Bool) → eqb c j ≡ y → eqb (c + k) (j + 1) ≡ (y && true)
          go true q = let z = eqb-true c j q in eq-eqb (c + k) (j + 1) (omega arith)
          go false q = ne_eqb (c + k) (j + 1) (λ f. eqb-false c j q (omega arith))
      more false k e = ne_eqb (c + k) (j + 1) (λ f. omega (arith, v.most)) ∙ sym (and-false (eqb c j))

  pub counting_end : n ≤ j → eqb c n ≡ passes p n (drop at s)
  counting_end h = let z : j ≡ n = omega (arith, v.inside) in ap (eqb c) (sym z) ∙ v.so_far ∙ ap (λ (k : ℕ). passes p k (drop at s)) z

-- A SCAN BY BLOCKS of n bytes: all before i pass
pub record Before (p : ℕ → Bool) (s : List ℕ) (i : ℕ) : Type 0 where
  pub inside : i ≤ length s
  pub pass : passes p i s ≡ true

pub before_none : (p : ℕ → Bool) (s : List ℕ) → Before p s 0
before_none p s = record { inside = omega arith; pass = refl }

module _ {p : ℕ → Bool} {s : List ℕ} {i : ℕ} (v : Before p s i) (n : ℕ) (fits : n ≤ length s) (x : Bool) where
  pub block_passes : i < length s - n → x ≡ passes p n (drop i s) → not x ≡ false → Before p s (i + n)
  block_passes h e t = record {
    inside = omega arith;
    pass = passes_append p i n (i + n) s refl ∙ rw v.pass (sym e ∙ not-false x t);
  }

  pub block_fails : i < length s - n → x ≡ passes p n (drop i s) → not x ≡ true → false ≡ passes p (length s) s
  block_fails h e t =
      let z : passes p (i + n) s ≡ false = passes_append p i n (i + n) s refl ∙ rw (sym e ∙ not-true x t) (and-false (passes p i s)) in
      sym (passes_append p (i + n) (length s - (i + n)) (length s) s (omega arith) ∙ rw z)

  -- the last block begins where it ends with the text
  pub block_last : length s - n ≤ i → x ≡ passes p n (drop (length s - n) s) → x ≡ passes p (length s) s
  block_last h e =
      let k = length s - n in
      let z : passes p k s ≡ true = and_left (passes p k s) (passes p (i - k) (drop k s)) (sym (passes_append p k (i - k) i s (omega arith)) ∙ v.pass) in
      e ∙ sym (passes_append p k n (length s) s (omega arith) ∙ rw z)

-- eight bytes that are not there
pub eight_none : (p : ℕ → Bool) (s : List ℕ) (at : ℕ) → length s < 8 → false ≡ passes p 8 (drop at s)
eight_none p s at h = sym (passes_short p 8 (drop at s) (omega (arith, length-drop at s)))

pub eight_few : (p : ℕ → Bool) (s : List ℕ) (at : ℕ) → 8 ≤ length s → length s - 8 < at → false ≡ passes p 8 (drop at s)
eight_few p s at m h = sym (passes_short p 8 (drop at s) (omega (arith, length-drop at s)))

-- A RUN from a place on
pub span_passes : (p : ℕ → Bool) (t : List ℕ) → passes p (span p t) t ≡ true
span_passes p [] = refl
span_passes p (b ∷ t) = go (p b) refl (span_passes p t)
  where
    go : (x : Bool) → p b ≡ x → passes p (span p t) t ≡ true → passes p (if x then suc (span p t) else 0) (b ∷ t) ≡ true
    go true e ih = rw e ih
    go false e ih = refl

-- A RAW NUL is what a search for it finds
found : (t : List ℕ) → not (passes (free_of (record { first = 0; second = 0; third = 0 })) (length t) t) ≡ has 0 t
unfolding free_of
found [] = refl
found (b ∷ t) = go (eqb b 0) refl (found t)
  where
    rest : Bool
    rest = passes (free_of (record { first = 0; second = 0; third = 0 })) (length t) t

    go : (x : Bool) → eqb b 0 ≡ x → not rest ≡ has 0 t → not ((not (eqb b 0) && not (eqb b 0) && not (eqb b 0)) && rest) ≡ (eqb 0 b || has 0 t)
    go true e ih = rw (e, eqb_sym 0 b ∙ e)
    go false e ih = rw (e, eqb_sym 0 b ∙ e) ih

pub nul_found : (t : List ℕ) (x : Bool) → x ≡ passes (free_of (record { first = 0; second = 0; third = 0 })) (length t) t → not x ≡ has 0 t
nul_found t x e = ap not e ∙ found t
