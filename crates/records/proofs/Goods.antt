-- Records: zeros behind the text, what makes a record good, the question that it asks, and its line. Assumes nothing.
use mathlib.Core.Path.{◌≡◌, refl, ap, sym, ◌∙◌, subst}
use mathlib.Core.Bool.{Bool, true, false, ◌&&◌, and-false, and-true}
use mathlib.Core.List.{List, [], ◌∷◌}
use Rattle.std.specs.List.{list_all}
use Prim.Native.Nat.{ℕ, ◌+◌, ◌-◌, ◌≤◌, ◌<◌}
use native.Mathlib.Omega.{arith}
use lib.Dec.{eqb, leb}
use lib.ListN.{length, take, drop, length-drop}
use lib.Seq.{length-take-le}
use borrow.Author.Tests.{le-leb, lt-leb, leb-true, eq-eqb, ne_eqb, eqb-true}
use Rattle.meaning.specs.declared.Settings.{Settings}
use Rattle.meaning.specs.declared.LiteralKind.{LiteralKind}
use Rattle.meaning.specs.declared.Literal.{Literal}
use Rattle.meaning.specs.Bytes.{◌!◌, within, all_zero}
use Rattle.meaning.specs.Codes.{kind_of}
use Rattle.meaning.specs.Records.{line, asked, good_record, text_in, record_line}
use Rattle.laws.proofs.basics.Lists.{part_tail}
use Rattle.laws.proofs.basics.Tests.{and_left, and_right, within_bounds}
use Rattle.records.specs.Adding.{pushed}
use Rattle.records.specs.Goods.{Good}

-- ZEROS: every byte is 0
pub zeros_all : (t : List ℕ) → list_all (λ b. eqb b 0) t ≡ all_zero t
zeros_all [] = refl
zeros_all (b ∷ t) = ap (eqb b 0 &&◌) (zeros_all t)

-- a literal that spans a text of n bytes, and a record's setting
abbrev pub spanning : LiteralKind → ℕ → Literal
spanning k n = record { kind = k; synthetic = false; span = record { start = 0; end = n } }

abbrev pub setting_in : List ℕ → Settings
setting_in r = record { backslash = eqb (r ! 2) 1 }

-- GOOD OR NOT
module _ (r : List ℕ) where
  pub bad_length : (length r ≡ 64 → ⊥) → false ≡ good_record r
  unfolding good_record
  bad_length n = rw (ne_eqb (length r) 64 n)

  pub bad_text : 60 < r ! 3 → false ≡ good_record r
  unfolding good_record
  bad_text h = rw (lt-leb (r ! 3) 60 h, and-false (eqb (length r) 64 && within 1 7 (r ! 0) && within 1 14 (r ! 1) && leb (r ! 2) 1))

  pub good_or_not : length r ≡ 64 → r ! 3 ≤ 60 → (z : Bool) → z ≡ all_zero (take (length r - (4 + r ! 3)) (drop (4 + r ! 3) r))
      → (leb 1 (r ! 0) && leb (r ! 0) 7 && (leb 1 (r ! 1) && leb (r ! 1) 14) && leb (r ! 2) 1 && z) ≡ good_record r
  unfolding good_record within
  good_or_not l s z e =
      let f : z ≡ all_zero (drop (4 + r ! 3) r) = e ∙ ap all_zero (part_tail r (4 + r ! 3)) in
      rw (eq-eqb (length r) 64 l, le-leb (r ! 3) 60 s, f, and-true (leb 1 (r ! 0) && leb (r ! 0) 7 && (leb 1 (r ! 1) && leb (r ! 1) 14) && leb (r ! 2) 1))

  pub good_facts : good_record r ≡ true → Good r
  unfolding good_record
  good_facts e =
      let a = eqb (length r) 64 in
      let b = within 1 7 (r ! 0) in
      let k = within 1 14 (r ! 1) in
      let d = leb (r ! 2) 1 in
      let s = leb (r ! 3) 60 in
      let five = and_left (a && b && k && d && s) (all_zero (drop (4 + r ! 3) r)) e in
      let four = and_left (a && b && k && d) s five in
      let three = and_left (a && b && k) d four in
      let bounds = within_bounds 1 14 (r ! 1) (and_right (a && b) k three) in
      record {
        holds = e;
        long = eqb-true (length r) 64 (and_left a b (and_left (a && b) k three));
        low = bounds.0;
        high = bounds.1;
        short = leb-true (r ! 3) 60 (and_right (a && b && k && d) s five);
      }

module _ (before after : List ℕ) where
  by : {x y : List ℕ} → x ≡ y → after ≡ pushed before x → after ≡ pushed before y
  by e = subst (λ (v : List ℕ). after ≡ pushed before v) e

  -- THE LINE of a record
  module _ (r : List ℕ) where
    pub bad_line : good_record r ≡ false → after ≡ pushed before (line 10 45 (48 ∷ []) []) → after ≡ pushed before (record_line r)
    unfolding record_line
    bad_line e x = rw e x

    module _ (g : Good r) where
      text_length : length (text_in r) ≡ r ! 3
      text_length = length-take-le (4 + r ! 3 - 4) (drop 4 r) (omega (arith, length-drop 4 r, g.long, g.short)) ∙ omega arith

      pub good_line : (k : LiteralKind) → k ≡ kind_of (r ! 1) → after ≡ pushed before (asked (r ! 0) (spanning k (r ! 3)) (setting_in r) (text_in r))
          → after ≡ pushed before (record_line r)
      unfolding record_line
      good_line k e x =
          rw g.holds
          (by
          (ap (λ (i : LiteralKind). asked (r ! 0) (spanning i (r ! 3)) (setting_in r) (text_in r)) e
          ∙ ap (λ (u : ℕ). asked (r ! 0) (spanning (kind_of (r ! 1)) u) (setting_in r) (text_in r)) (sym text_length)) x)

-- its text is short
pub text_short : (r : List ℕ) → Good r → length (text_in r) ≤ 64
text_short r g = let e = text_length [] [] r g in omega (arith, g.short)
