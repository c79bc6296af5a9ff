-- An opening, by the tests of its first bytes. Assumes nothing.
use mathlib.Core.Path.{◌≡◌, refl, sym, ◌∙◌}
use mathlib.Core.Bool.{Bool, true, false, ◌&&◌, ◌||◌, or-false}
use mathlib.Core.List.{List, [], ◌∷◌}
use Prim.Native.Nat.{ℕ}
use native.Mathlib.Omega.{arith}
use lib.Dec.{eqb}
use lib.ListN.{length, drop}
use borrow.Author.Tests.{eq-eqb, ne_eqb}
use Rattle.meaning.specs.Bytes.{◌!◌, ascii, has, is_mark, quote}
use Rattle.std.specs.Prelude.{if◌then◌else◌}
use Rattle.meaning.specs.Cutting.{opening, named}
use Rattle.cutting.specs.Openings.{is_letter_prefix}

-- an opening, over the bytes by their places
opening_at : (l : List ℕ) → (length l ≡ 0 → ⊥)
    → opening l ≡ (if is_mark (l ! 0) then 1
    else if has (l ! 0) (ascii "EeNnBbXx") then (if eqb (l ! 1) quote then 2 else 0)
    else if has (l ! 0) (ascii "Uu") then (if eqb (l ! 1) 38 && eqb (l ! 2) quote then 3 else 0)
    else if eqb (l ! 0) 95 then named (drop 1 l)
    else 0)
opening_at [] h = absurd (h refl)
opening_at (b ∷ t) h = refl

-- the ways out, by the tests in their order: a mark; a letter and what follows it; U and what follows it; an underscore; another byte
module _ (l : List ℕ) (h : length l ≡ 0 → ⊥) (x : Bool) (ex : x ≡ is_mark (l ! 0)) where
  module _ (nx : x ≡ false) (y : Bool) (ey : y ≡ is_letter_prefix (l ! 0)) where
    pub opens_letter : y ≡ true → (b : ℕ) → b ≡ l ! 1 → b ≡ 39 → 2 ≡ opening l
    opens_letter t b eb q = rw (opening_at l h, ← ex, nx, ← ey, t, eq-eqb (l ! 1) 39 (sym eb ∙ q))

    module _ (ny : y ≡ false) where
      opens_unicode_by : (eqb (l ! 0) 85 || eqb (l ! 0) 117) ≡ true → (b d : ℕ) → b ≡ l ! 1 → d ≡ l ! 2
          → opening l ≡ (if eqb b 38 && eqb d 39 then 3 else 0)
      opens_unicode_by t b d eb ed = rw (opening_at l h, ← ex, nx, ← ey, ny, or-false, t, ← eb, ← ed)
