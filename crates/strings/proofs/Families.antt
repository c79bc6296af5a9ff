-- How a segment's body is read, by its first byte. Assumes nothing.
use mathlib.Core.Path.{◌≡◌, refl, ap, ap₂, sym, ◌∙◌}
use mathlib.Core.Bool.{Bool, true, false, ◌||◌, or-false}
use mathlib.Core.List.{[], ◌∷◌}
use Prim.Native.Nat.{ℕ}
use lib.Dec.{eqb}
use Rattle.meaning.specs.declared.Settings.{Settings}
use Rattle.meaning.specs.Bytes.{has, is_mark}
use borrow.Author.Tests.{eqb-true, ne_eqb}
use Rattle.cutting.specs.declared.marks.Mark.{Mark}
use Rattle.cutting.specs.declared.marks.Mark.TheVariants.{Quote, DoubleQuote}
use Rattle.cutting.specs.Marks.{mark_of}
use Rattle.escapes.specs.declared.units.Family.TheVariants.{Standard, Escape, Unicode}
use Rattle.strings.specs.Driving.{family_by, is_bits}

-- one of two bytes
two : (b c d : ℕ) → has b (c ∷ d ∷ []) ≡ (eqb b c || eqb b d)
two b c d = ap (eqb b c ||◌) (or-false (eqb b d))

pub family_escape : (σ : Settings) (b : ℕ) (m : Mark) → (eqb b 69 || eqb b 101) ≡ true → Escape ≡ family_by σ b m
family_escape σ b m h = rw (two b 69 101, h)

pub family_unicode : (σ : Settings) (b : ℕ) (m : Mark) → (eqb b 69 || eqb b 101) ≡ false → (eqb b 85 || eqb b 117) ≡ true → Unicode Quote ≡ family_by σ b m
family_unicode σ b m h k = rw (two b 69 101, h, two b 85 117, k)

pub family_standard : (σ : Settings) (b : ℕ) (m : Mark) → (eqb b 69 || eqb b 101) ≡ false → (eqb b 85 || eqb b 117) ≡ false
    → Standard m σ.backslash ≡ family_by σ b m
family_standard σ b m h k = rw (two b 69 101, h, two b 85 117, k)

pub bits_four : (b : ℕ) → (((eqb b 66 || eqb b 98) || eqb b 88) || eqb b 120) ≡ is_bits b
bits_four b = go (eqb b 66) (eqb b 98) (eqb b 88) (eqb b 120)
  where
    go : (x y z u : Bool) → (((x || y) || z) || u) ≡ (x || (y || (z || (u || false))))
    go true y z u = refl
    go false true z u = refl
    go false false true u = refl
    go false false false true = refl
    go false false false false = refl

pub mark_double : (b : ℕ) → (b ≡ 39 → ⊥) → is_mark b ≡ true → mark_of DoubleQuote ≡ b
unfolding is_mark
mark_double b n m = sym (eqb-true b 34 (sym (ap₂ (λ (x y : Bool). x || y) (ne_eqb b 39 n) (or-false (eqb b 34))) ∙ m))
