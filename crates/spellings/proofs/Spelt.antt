-- The spelling of a text, by the tests in their order; and a charset introducer's string. Assumes nothing.
use mathlib.Core.Path.{◌≡◌, refl, sym, ◌∙◌}
use mathlib.Core.Bool.{Bool, true, false, ◌&&◌, ◌||◌, not, or-false}
use mathlib.Core.List.{List, [], ◌∷◌}
use Prim.Native.Nat.{ℕ, ◌-◌, ◌≤◌}
use native.Mathlib.Omega.{arith}
use lib.Dec.{eqb}
use lib.ListN.{length}
use borrow.Author.Tests.{lt-ltb, ne_eqb, not-true, not-false}
use Rattle.meaning.specs.Bytes.{◌!◌, quote, dquote}
use Rattle.meaning.specs.Cutting.{opening}
use Rattle.meaning.specs.Spelling.{encloses, is_unicode, unicode_spelling, delimiter, dollar_by, spelling}
use Rattle.cutting.specs.declared.marks.Mark.TheVariants.{Quote, DoubleQuote}
use Rattle.cutting.proofs.Closes.{mark_other}
use Rattle.escapes.specs.declared.units.Family.TheVariants.{Standard, Escape}
use Rattle.cutting.proofs.Cuts.{opened_mark}
use Rattle.spellings.specs.declared.spelling.Spelled.{Spelled}
use Rattle.spellings.specs.declared.spelling.Spelled.TheVariants.{Body, Dollar, Unspelt}
use Rattle.spellings.specs.Spelled.{Spells, Lexes, Dollars, enclosed_of, introduced_of, other_of}
use Rattle.laws.proofs.basics.Enclosures.{enclosed_room}

-- AN INTRODUCER of o bytes, with its mark; x is the setting
module _ (x : Bool) (t : List ℕ) (o : ℕ) (eo : o ≡ opening t) where
  pub introduced_none : o ≡ 0 → Spells x t Unspelt (introduced_of t)
  unfolding introduced_of
  introduced_none z = record { means = rw (← eo, z); inside = tt; family = tt }

  module _ (z : o ≡ 0 → ⊥) (y : Bool) (ey : y ≡ encloses (o - 1) (t ! (o - 1)) t) where
    pub introduced_open : not y ≡ true → Spells x t Unspelt (introduced_of t)
    unfolding introduced_of
    introduced_open n = record { means = rw (← eo, lt-ltb 0 o (omega arith), ← ey, not-true y n); inside = tt; family = tt }

    module _ (n : not y ≡ false) where
      pub introduced_quote : t ! (o - 1) ≡ 39 → (r : Spelled) → r ≡ enclosed_of (Standard Quote x) o (length t - 1) → Spells x t r (introduced_of t)
      unfolding introduced_of
      introduced_quote q r e = rw e (record { means = rw (← eo, lt-ltb 0 o (omega arith), ← ey, not-false y n, q); inside = omega arith; family = refl })

      pub introduced_double : (t ! (o - 1) ≡ 39 → ⊥) → (r : Spelled) → r ≡ enclosed_of (Standard DoubleQuote x) o (length t - 1) → Spells x t r (introduced_of t)
      unfolding introduced_of
      introduced_double q r e =
          let d : t ! (o - 1) ≡ 34 = sym (mark_other (t ! (o - 1)) (opened_mark t o eo z) q) in
          rw e (record { means = rw (← eo, lt-ltb 0 o (omega arith), ← ey, not-false y n, d); inside = omega arith; family = refl })

-- NO TEXT
pub spells_empty : (x : Bool) (t : List ℕ) → length t ≡ 0 → Spells x t Unspelt (spelling t)
unfolding spelling encloses is_unicode delimiter
spells_empty x [] z = record { means = refl; inside = tt; family = tt }
spells_empty x (b ∷ t) z = absurd (omega arith)

-- THE TESTS in their order
module _ (x : Bool) (t : List ℕ) (a : Bool) (ea : a ≡ encloses 0 quote t) where
  pub spells_quote : a ≡ true → (r : Spelled) → r ≡ enclosed_of (Standard Quote x) 1 (length t - 1) → Spells x t r (spelling t)
  unfolding spelling
  spells_quote h r e = rw e (record { means = rw (← ea, h); inside = omega arith; family = refl })

  module _ (na : a ≡ false) (b : Bool) (eb : b ≡ encloses 0 dquote t) where
    pub spells_double : b ≡ true → (r : Spelled) → r ≡ enclosed_of (Standard DoubleQuote x) 1 (length t - 1) → Spells x t r (spelling t)
    unfolding spelling
    spells_double h r e = rw e (record { means = rw (← ea, na, ← eb, h); inside = omega arith; family = refl })

    module _ (nb : b ≡ false) (d : Bool) (ed : d ≡ encloses 1 quote t) where
      pub spells_escape : ((eqb (t ! 0) 69 || eqb (t ! 0) 101) && d) ≡ true → (r : Spelled) → r ≡ enclosed_of Escape 2 (length t - 1) → Spells x t r (spelling t)
      unfolding spelling
      spells_escape h r e = rw e (record { means = rw (← ea, na, ← eb, nb, or-false (eqb (t ! 0) 101), ← ed, h); inside = omega arith; family = tt })

      module _ (ne : ((eqb (t ! 0) 69 || eqb (t ! 0) 101) && d) ≡ false) where
        pub spells_national : ((eqb (t ! 0) 78 || eqb (t ! 0) 110) && d) ≡ true → (r : Spelled) → r ≡ enclosed_of (Standard Quote x) 2 (length t - 1) → Spells x t r (spelling t)
        unfolding spelling
        spells_national h r e = rw e (record { means = rw (← ea, na, ← eb, nb, or-false (eqb (t ! 0) 101), ← ed, ne, or-false (eqb (t ! 0) 110), h); inside = omega arith; family = refl })

        pub spells_other : ((eqb (t ! 0) 78 || eqb (t ! 0) 110) && d) ≡ false → (r : Spelled) → Spells x t r (other_of t) → Spells x t r (spelling t)
        unfolding spelling other_of
        spells_other h r s = rw (← ea, na, ← eb, nb, or-false (eqb (t ! 0) 101), ← ed, ne, or-false (eqb (t ! 0) 110), h) s

-- NO MARKS
lexeme_string : (x : Bool) (t : List ℕ) (r : Spelled) → Lexes Quote t r → Spells x t r (unicode_spelling quote t)
lexeme_string x t (Body b) s = record { means = s.means; inside = s.inside; family = rw s.family refl }
lexeme_string x t (Dollar f u) s = absurd s.family
lexeme_string x t Unspelt s = record { means = s.means; inside = tt; family = tt }

dollar_string : (x : Bool) (t : List ℕ) (r : Spelled) → Dollars t r → Spells x t r (dollar_by t (delimiter t))
dollar_string x t (Body b) s = absurd s.family
dollar_string x t (Dollar f u) s = record { means = s.means; inside = tt; family = tt }
dollar_string x t Unspelt s = record { means = s.means; inside = tt; family = tt }

module _ (x : Bool) (t : List ℕ) (b : ℕ) (eb : b ≡ t ! 0) where
  pub other_introduced : b ≡ 95 → (r : Spelled) → Spells x t r (introduced_of t) → Spells x t r (other_of t)
  unfolding other_of introduced_of is_unicode delimiter
  other_introduced u r s = let f : t ! 0 ≡ 95 = sym eb ∙ u in rw f s

  module _ (nu : b ≡ 95 → ⊥) (y : Bool) (ey : y ≡ is_unicode quote t) where
    pub other_unicode : y ≡ true → (r : Spelled) → Lexes Quote t r → Spells x t r (other_of t)
    unfolding other_of
    other_unicode h r s = rw (← eb, ne_eqb b 95 nu, ← ey, h) (lexeme_string x t r s)

    pub other_dollar : y ≡ false → (r : Spelled) → Dollars t r → Spells x t r (other_of t)
    unfolding other_of
    other_dollar h r s = rw (← eb, ne_eqb b 95 nu, ← ey, h) (dollar_string x t r s)
