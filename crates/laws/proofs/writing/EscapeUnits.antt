-- [02 T-01] E: each byte of a value without NUL is a unit of its own, whatever its neighbours. Assumes nothing.
use mathlib.Core.Path.{◌≡◌, refl, ap}
use mathlib.Core.Bool.{Bool, true, false}
use mathlib.Core.List.{List, [], ◌∷◌, ◌++◌}
use Prim.Native.Nat.{ℕ, ◌/◌, ◌%◌, ◌^◌, ◌≤◌, ◌<◌}
use native.Mathlib.Nat.{mod-eq_of_lt}
use native.Mathlib.Omega.{arith}
use lib.Dec.{eqb, ltb}
use borrow.Author.Tests.{ltb-true, ltb-false, le-leb, lt-ltb, eqb-true, eqb-false, ne_eqb}
use Rattle.meaning.specs.declared.Form.TheVariants.{Escape}
use Rattle.meaning.specs.Bytes.{has, within, quote, backslash, digits, number}
use Rattle.std.specs.Prelude.{if◌then◌else◌}
use Rattle.meaning.specs.Walk.{Step, keep, give, after, walk, value}
use Rattle.meaning.specs.Steps.{byte_of, escape_table, escaped, one_byte}
use Rattle.meaning.specs.Forms.{figure, figures, letter_of, is_doubled, escape_form, form_step}
use Rattle.laws.proofs.basics.Tests.{within_yes, within_bounds, or_left, or_right}
use Rattle.laws.proofs.writing.FormUnits.{form_cost, Spelled, Units, over, itself, spelled}
use Rattle.laws.proofs.writing.Figures.{figures_digits, figures_number, figures_bytes}
use Rattle.laws.proofs.writing.Spellings.{low_utf8, figure_apart, escape_spelled, twice}

-- LETTERS. What holds of each row of the table, its letter and its byte, holds of a byte and its letter
abbrev Letters : (ℕ → ℕ → Type 0) → List (ℕ × ℕ) → Type 0
Letters P [] = Unit {0}
Letters P (r ∷ rs) = P r.0 r.1 × Letters P rs

letter_row : (P : ℕ → ℕ → Type 0) (rs : List (ℕ × ℕ)) → Letters P rs → (b : ℕ) → ltb (letter_of rs b) 256 ≡ true → P (letter_of rs b) b
letter_row P [] a b h = absurd (omega (arith, ltb-true 256 256 h))
letter_row P (r ∷ rs) a b h = go (eqb r.1 b) refl h (letter_row P rs a.1 b)
  where
    go : (x : Bool) → eqb r.1 b ≡ x → ltb (if x then r.0 else letter_of rs b) 256 ≡ true → (ltb (letter_of rs b) 256 ≡ true → P (letter_of rs b) b)
        → P (if x then r.0 else letter_of rs b) b
    go true e h ih = rw (eqb-true r.1 b e) at a.0
    go false e h ih = ih h

-- a letter that is read as the byte
abbrev Letter : ℕ → ℕ → Type 0
Letter c b = (byte_of escape_table c ≡ b) × (within 0x20 0x7E c ≡ true) × (eqb c quote ≡ false) × (b < 0x80)

letters : Letters Letter escape_table
unfolding within
letters = (
  (refl, refl, refl, omega arith),
  (
    (refl, refl, refl, omega arith),
    (
      (refl, refl, refl, omega arith),
      ((refl, refl, refl, omega arith), ((refl, refl, refl, omega arith), tt)),
    ),
  ),
)

-- a digit comes before every letter
letters_high : Letters (λ c b. 0x46 < c) escape_table
letters_high = omega arith

below_letters : (rs : List (ℕ × ℕ)) → Letters (λ c b. 0x46 < c) rs → (c : ℕ) → c ≤ 0x46 → byte_of rs c ≡ 256
below_letters [] a c h = refl
below_letters (r ∷ rs) a c h = rw (ne_eqb r.0 c (λ e. omega arith)) (below_letters rs a.1 c h)

-- A BYTE that is not doubled
module _ (b : ℕ) (once : is_doubled b ≡ false) where
  letter_spelled : ltb (letter_of escape_table b) 256 ≡ true → Spelled Escape (b ∷ []) (backslash ∷ letter_of escape_table b ∷ [])
  unfolding form_cost
  letter_spelled h =
      let l = letter_row Letter escape_table letters b h in
      let low = l.3 in
      escape_spelled Escape b [] (letter_of escape_table b) [] (λ r. reads (letter_of escape_table b) l.0 low r) l.1 l.2 tt (low_utf8 b low) (omega arith)
      (rw (once, h) refl) (omega arith)
    where
      reads : (c : ℕ) → byte_of escape_table c ≡ b → b < 0x80 → (r : List ℕ) → escaped (c ∷ r) ≡ give 1 (b ∷ [])
      reads c e low r = rw (e, lt-ltb b 256 (omega arith))

  -- OCTAL: a digit is no letter, and three digits are read as one number
  octal_read : (x : Bool) (n : ℕ) (N : ℕ → ℕ) (s u : Step) → x ≡ false → n ≡ 3 → N 3 ≡ b → 0 < b → b < 256
      → (if x then s else if ltb 0 n then one_byte n (N n % 256) else u) ≡ give 3 (b ∷ [])
  unfolding one_byte
  octal_read x n N s u ex en e some low = rw (ex, en, e, mod-eq_of_lt low, ne_eqb b 0 (λ z. omega arith))

  octal_spelled : ltb (letter_of escape_table b) 256 ≡ false → ltb b 0x20 ≡ true → 0 < b → Spelled Escape (b ∷ []) (backslash ∷ figures 8 3 b)
  unfolding form_cost
  octal_spelled l h some =
      let low = ltb-true b 0x20 h in
      let d = figure (b / 8 ^ 2 % 8) in
      let a = figures_bytes 8 3 b (omega arith) (omega arith) in
      let k = within_bounds 0x30 0x46 d a.0 in
      escape_spelled Escape b [] d (figures 8 2 b)
      (λ r.
      octal_read (ltb (byte_of escape_table d) 256) (digits 8 3 (figures 8 3 b ++ r)) (λ n. number 8 n 0 (figures 8 3 b ++ r)) _ _
      (ap (λ (x : ℕ). ltb x 256) (below_letters escape_table letters_high d k.1))
      (figures_digits 8 3 b r (omega arith) (omega arith)) (figures_number 8 3 b r (omega arith) (omega arith) (omega arith)) some (omega arith))
      (within_yes 0x20 0x7E d (omega arith) (omega arith)) (figure_apart d quote a.0 (λ h. omega arith)) a.1 (low_utf8 b (omega arith)) (omega arith)
      (rw (once, l, h) refl) (omega arith)

-- A VALUE
pub escape_units : (v : List ℕ) → has 0 v ≡ false → Units Escape v (value (walk (form_step Escape) 0 v))
unfolding escape_form
escape_units [] h = over
escape_units (b ∷ v) h =
    go (is_doubled b) (ltb (letter_of escape_table b) 256) (ltb b 0x20) refl refl refl (escape_units v (or_right (eqb 0 b) (has 0 v) h))
  where
    some : 0 < b
    some = let k = eqb-false 0 b (or_left (eqb 0 b) (has 0 v) h) in omega arith

    go : (x y z : Bool) → is_doubled b ≡ x → ltb (letter_of escape_table b) 256 ≡ y → ltb b 0x20 ≡ z → Units Escape v (value (walk (form_step Escape) 0 v))
        → Units Escape (b ∷ v)
        (value (after (if x then give 0 (b ∷ b ∷ []) else if y then give 0 (backslash ∷ letter_of escape_table b ∷ [])
        else if z then give 0 (backslash ∷ figures 8 3 b) else keep) b (λ n. walk (form_step Escape) n v)))
    go true y z ex ey ez ih = spelled (twice Escape b ex) ih
    go false true z ex ey ez ih = spelled (letter_spelled b ex ey) ih
    go false false true ex ey ez ih = spelled (octal_spelled b ex ey ez some) ih
    go false false false ex ey ez ih = itself (record { visible = le-leb 0x20 b (ltb-false b 0x20 ez); single = ex }) ih
