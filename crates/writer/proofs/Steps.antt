-- How one character is spelled, by whether its first byte stands for itself: the tests of the code beside those of the definitions. Assumes nothing.
use mathlib.Core.Path.{◌≡◌, refl, sym, ◌∙◌}
use mathlib.Core.Bool.{Bool, true, false, ◌&&◌, ◌||◌, not, false≢true}
use mathlib.Core.List.{List, [], ◌∷◌}
use Prim.Native.Nat.{ℕ, suc, ◌-◌, ◌<◌}
use native.Mathlib.Omega.{arith}
use lib.Dec.{eqb, leb, ltb}
use borrow.Author.Tests.{leb-true, le-leb, le-ltb, ltb-false, not-true}
use Rattle.meaning.specs.declared.Form.TheVariants as Form'
use Rattle.meaning.specs.Bytes.{within, quote, backslash}
use Rattle.std.specs.Prelude.{if◌then◌else◌}
use Rattle.meaning.specs.Chars.{Due, due, broken, fresh, lead, base, gather, width}
use Rattle.meaning.specs.Chars as chars
use Rattle.meaning.specs.Walk.{Step, keep, give}
use Rattle.meaning.specs.Steps.{escape_table}
use Rattle.meaning.specs.Forms.{figures, letter_of, is_doubled, escape_form, unicode_figures, unicode_form}
use Rattle.laws.proofs.basics.Tests.{and_left, and_right, within_bounds}
use Rattle.laws.proofs.utf8.Utf8.{low_lead}
use Rattle.laws.proofs.writing.Spellings.{twice}
use Rattle.laws.proofs.writing.FormText.{no_letter}
use Rattle.writer.specs.Manners.{Manner, Plain, Escape, Unicode, kept_by, keeps, step_by, given, unit_by, unit_width}

-- WHICH BYTES A FORM KEEPS, by the definitions' tests
pub escape_keeps : (b : ℕ) → keeps (kept_by Escape) b ≡ (leb 0x20 b && not (is_doubled b))
unfolding keeps is_doubled
escape_keeps b = go (leb 0x20 b) (leb b 0x7E) (eqb b quote) (eqb b backslash)
  where
    go : (x y q s : Bool) → (x && (y || true) && not q && not s) ≡ (x && not (s || (q || false)))
    go false y q s = refl
    go true false true true = refl
    go true false true false = refl
    go true false false true = refl
    go true false false false = refl
    go true true true true = refl
    go true true true false = refl
    go true true false true = refl
    go true true false false = refl

pub unicode_keeps : (b : ℕ) → keeps (kept_by Unicode) b ≡ (within 0x20 0x7E b && not (is_doubled b))
unfolding keeps is_doubled within
unicode_keeps b = go (leb 0x20 b) (leb b 0x7E) (eqb b quote) (eqb b backslash)
  where
    go : (x y q s : Bool) → (x && (y || false) && not q && not s) ≡ (x && y && not (s || (q || false)))
    go false y q s = refl
    go true false q s = refl
    go true true true true = refl
    go true true true false = refl
    go true true false true = refl
    go true true false false = refl

-- E
module _ (b : ℕ) where
  escape_kept : keeps (kept_by Escape) b ≡ true → escape_form b ≡ keep
  unfolding escape_form
  escape_kept h =
      let k : (leb 0x20 b && not (is_doubled b)) ≡ true = sym (escape_keeps b) ∙ h in
      let l = leb-true 0x20 b (and_left (leb 0x20 b) (not (is_doubled b)) k) in
      let d = not-true (is_doubled b) (and_right (leb 0x20 b) (not (is_doubled b)) k) in
      rw (d, no_letter b l, le-ltb b 0x20 l)

  abbrev escape_by : Bool → Bool → Bool → Step
  escape_by x y z =
      if x then give 0 (b ∷ b ∷ [])
      else if y then give 0 (backslash ∷ letter_of escape_table b ∷ [])
      else if z then give 0 (backslash ∷ figures 8 3 b)
      else keep

  escape_changed : keeps (kept_by Escape) b ≡ false → escape_form b ≡ give 0 (given (escape_form b))
  unfolding escape_form
  escape_changed h = go (is_doubled b) (ltb (letter_of escape_table b) 256) (ltb b 0x20) refl refl
    where
      go : (x y z : Bool) → is_doubled b ≡ x → ltb b 0x20 ≡ z → escape_by x y z ≡ give 0 (given (escape_by x y z))
      go true y z d e = refl
      go false true z d e = refl
      go false false true d e = refl
      go false false false d e = absurd (false≢true (sym h ∙ escape_keeps b ∙ rw (d, le-leb 0x20 b (ltb-false b 0x20 e))))

less_one : (n : ℕ) → suc n - 1 ≡ n
less_one n = omega arith

-- U&: a byte that is doubled or visible is a character alone
doubled_visible : (b : ℕ) → is_doubled b ≡ true → within 0x20 0x7E b ≡ true
doubled_visible b d = (twice Form'.Unicode b d).visible.0

visible_lead : (b : ℕ) → within 0x20 0x7E b ≡ true → lead b ≡ fresh
visible_lead b w = let k = within_bounds 0x20 0x7E b w in low_lead b (omega arith)

pub doubled_lead : (b : ℕ) → is_doubled b ≡ true → lead b ≡ fresh
doubled_lead b d = visible_lead b (doubled_visible b d)

module _ (b : ℕ) (v : List ℕ) where
  unicode_kept : keeps (kept_by Unicode) b ≡ true → unicode_form (lead b) b v ≡ keep
  unicode_kept h =
      let k : (within 0x20 0x7E b && not (is_doubled b)) ≡ true = sym (unicode_keeps b) ∙ h in
      let w = and_left (within 0x20 0x7E b) (not (is_doubled b)) k in
      let d = not-true (is_doubled b) (and_right (within 0x20 0x7E b) (not (is_doubled b)) k) in
      rw (visible_lead b w, d, w)

  abbrev unicode_by : ℕ → ℕ → ℕ → Bool → Bool → Step
  unicode_by n lo hi x y = if x then give 0 (b ∷ b ∷ []) else if y then keep else give n (unicode_figures (gather n lo hi (b - base n) v))

  unicode_changed : keeps (kept_by Unicode) b ≡ false → 0 < width b
      → unicode_form (lead b) b v ≡ give (width b - 1) (given (unicode_form (lead b) b v))
  unfolding width
  unicode_changed h some = go (lead b) refl some
    where
      test : (n lo hi : ℕ) → lead b ≡ due n lo hi → (x y : Bool) → is_doubled b ≡ x → within 0x20 0x7E b ≡ y
          → unicode_by n lo hi x y ≡ give n (given (unicode_by n lo hi x y))
      test n lo hi e true y d w =
          let f = doubled_lead b d in
          let z : n ≡ 0 = cc in
          rw z
      test n lo hi e false true d w = absurd (false≢true (sym h ∙ unicode_keeps b ∙ rw (d, w)))
      test n lo hi e false false d w = refl

      go : (l : Due) → lead b ≡ l → 0 < chars.width_by l → unicode_form l b v ≡ give (chars.width_by l - 1) (given (unicode_form l b v))
      go broken e w = absurd (omega arith)
      go (due n lo hi) e w = rw (less_one n) (test n lo hi e (is_doubled b) (within 0x20 0x7E b) refl refl)

-- EACH MANNER
pub kept_step : (m : Manner) (b : ℕ) (v : List ℕ) → keeps (kept_by m) b ≡ true → step_by m (b ∷ v) ≡ keep
kept_step (Plain bs) b v h = rw h
kept_step Escape b v h = escape_kept b h
kept_step Unicode b v h = unicode_kept b v h

pub changed_step : (m : Manner) (b : ℕ) (v : List ℕ) → keeps (kept_by m) b ≡ false → (m ≡ Unicode → 0 < width b)
    → step_by m (b ∷ v) ≡ give (unit_width m b - 1) (unit_by m (b ∷ v))
changed_step (Plain bs) b v h begins = rw h
changed_step Escape b v h begins = escape_changed b h
changed_step Unicode b v h begins = unicode_changed b v h (begins refl)
