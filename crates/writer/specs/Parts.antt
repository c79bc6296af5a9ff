-- The parts of a value, one after the other. Assumes nothing.
use Rattle.std.specs.Prelude.{Bool, true, ◌≡◌, List, [], ◌∷◌, ℕ, ◌≤◌, length, drop}
use Rattle.meaning.specs.declared.PartSize.{PartSize}
use Rattle.meaning.specs.declared.PartSize.TheVariants.{Whole, AtMost}
use Rattle.meaning.specs.Chars.{utf8}
use Rattle.meaning.specs.Writer.{literals, parts_from}
use Rattle.writer.specs.Manners.{Plain}
use Rattle.writer.specs.Texts.{all_kept}

-- a part that takes every value whole
abbrev pub limit_of : PartSize → ℕ
limit_of Whole = 0xFFFFFFFFFFFFFFFF
limit_of (AtMost w) = w

-- of parts of w bytes at the most, the first and the others. (There is always a part)
abbrev pub first : List (List ℕ) → List ℕ
first [] = []
first (p ∷ ps) = p

abbrev pub others : List (List ℕ) → List (List ℕ)
others [] = []
others (p ∷ ps) = ps

abbrev pub first_part : ℕ → List ℕ → List ℕ
first_part w v = first (parts_from w w v)

abbrev pub later_parts : ℕ → List ℕ → List (List ℕ)
later_parts w v = others (parts_from w w v)

-- at a place between two characters, and each character fits a part
pub record Cuttable (w from : ℕ) (v : List ℕ) : Type 0 where
  pub inside : from ≤ length v
  pub short : length v ≤ 268435456
  pub valid : utf8 (drop from v) ≡ true
  pub wide : 4 ≤ w

pub record FitsInParts (w : ℕ) (bs whole : Bool) (v : List ℕ) (n : ℕ) : Type 0 where
  pub cuttable : Cuttable w 0 v
  pub copied : whole ≡ true → all_kept (Plain bs) v ≡ true
  pub room : length (literals bs (parts_from w w v)) ≤ n
