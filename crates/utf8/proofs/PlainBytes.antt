-- Plain ASCII: a byte by one comparison, and a slice of such bytes is UTF-8 and holds no NUL. Assumes nothing.
use Rattle.std.proofs.Common.{◌≡◌, ℕ, ◌+◌, ◌%◌, ◌^◌, ◌<◌, ◌≤◌, Bool, true, false, not, ◌&&◌, eqb, ltb, List, [], ◌∷◌, length, sym, refl, ap, ◌∙◌, arith, ltb-false, ltb-true, ne_eqb}
use Rattle.meaning.specs.Bytes.{within, has}
use Rattle.meaning.specs.Chars.{Due, fresh, pushes, whole, utf8}
use Rattle.laws.proofs.basics.Tests.{and_left, and_right, within_yes, within_below, within_above, within_bounds}
use Rattle.laws.proofs.utf8.Utf8.{low_lead}
use Rattle.leaves.specs.Blocks.{passes}
use Rattle.utf8.specs.Plain.{plain_of}

low_by : (b r : ℕ) → b < 2 ^ 8 → r < 2 ^ 8 → (r + 1) % 2 ^ 8 ≡ b → ltb r 127 ≡ within 1 127 b
low_by b r h f e = go (ltb r 127) refl
  where
    go : (x : Bool) → ltb r 127 ≡ x → x ≡ within 1 127 b
    go true y = let k = ltb-true r 127 y in sym (within_yes 1 127 b (omega arith) (omega arith))
    go false y = outside (ltb r 255) refl
      where
        outside : (x : Bool) → ltb r 255 ≡ x → false ≡ within 1 127 b
        outside true z = let l = ltb-true r 255 z in let k = ltb-false r 127 y in sym (within_above 1 127 b (omega arith))
        outside false z = let l = ltb-false r 255 z in sym (within_below 1 127 b (omega arith))

pub plain_byte : (b x y r : ℕ) → b < 2 ^ 8 → r < 2 ^ 8 → (r + 1) % 2 ^ 8 ≡ b → (ltb r 127 && not (eqb b x) && not (eqb b y)) ≡ plain_of x y b
unfolding plain_of
plain_byte b x y r h f e = rw (low_by b r h f e)

pub plain_bounds : (x y b : ℕ) → plain_of x y b ≡ true → (1 ≤ b) × (b ≤ 127)
unfolding plain_of
plain_bounds x y b h = within_bounds 1 127 b (and_left (within 1 127 b) (not (eqb b x)) (and_left (within 1 127 b && not (eqb b x)) (not (eqb b y)) h))

-- SLICES
module _ (x y : ℕ) where
  pub plain_pushes : (t : List ℕ) → passes (plain_of x y) (length t) t ≡ true → pushes fresh t ≡ fresh
  plain_pushes [] h = refl
  plain_pushes (b ∷ t) h =
      let k = plain_bounds x y b (and_left (plain_of x y b) (passes (plain_of x y) (length t) t) h) in
      ap (λ (d : Due). pushes d t) (low_lead b (omega arith)) ∙ plain_pushes t (and_right (plain_of x y b) (passes (plain_of x y) (length t) t) h)

  plain_utf8 : (t : List ℕ) → passes (plain_of x y) (length t) t ≡ true → utf8 t ≡ true
  unfolding utf8
  plain_utf8 t h = ap whole (plain_pushes t h)

  plain_nul : (t : List ℕ) → passes (plain_of x y) (length t) t ≡ true → has 0 t ≡ false
  plain_nul [] h = refl
  plain_nul (b ∷ t) h =
      let k = plain_bounds x y b (and_left (plain_of x y b) (passes (plain_of x y) (length t) t) h) in
      rw (ne_eqb 0 b (λ z. omega arith)) (plain_nul t (and_right (plain_of x y b) (passes (plain_of x y) (length t) t) h))

  -- as the code asks
  module _ (t : List ℕ) (r : Bool) (e : r ≡ passes (plain_of x y) (length t) t) (h : r ≡ true) where
    pub run_utf8 : true ≡ utf8 t
    run_utf8 = sym (plain_utf8 t (sym e ∙ h))

    pub run_clean : (has 0 t ≡ false) × (utf8 t ≡ true)
    run_clean = (plain_nul t (sym e ∙ h), plain_utf8 t (sym e ∙ h))
