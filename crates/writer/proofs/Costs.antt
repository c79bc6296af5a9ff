-- What a byte of a value costs, as the code counts it: a sum of tests. That the sums are the definitions' costs is computed, byte by byte. Assumes nothing.
use mathlib.Core.Path.{◌≡◌, refl, ap, ◌∙◌}
use mathlib.Core.Bool.{Bool, true, false, ◌&&◌, ◌||◌, not}
use Prim.Native.Nat.{ℕ, zero, suc, ◌+◌, ◌*◌, ◌≤◌, ◌<◌}
use native.Mathlib.Decide.{dec_lt}
use native.Mathlib.Omega.{arith}
use lib.Dec.{eqb, leb, ltb}
use borrow.Author.Tests.{eqb-true}
use Rattle.meaning.specs.declared.Form.{Form}
use Rattle.meaning.specs.declared.Form.TheVariants as Form'
use Rattle.meaning.specs.Bytes.{within}
use Rattle.std.specs.Prelude.{if◌then◌else◌}
use Rattle.meaning.specs.Steps.{escape_table}
use Rattle.meaning.specs.Forms.{letter_of, is_doubled}
use Rattle.laws.proofs.basics.Tests.{and_left, and_right}
use Rattle.laws.proofs.writing.WriterText.{cost, cost_most}
use Rattle.laws.proofs.writing.FormUnits.{form_cost}
use Rattle.writer.specs.Manners.{Manner, Plain, Escape, Unicode, cost_by}

-- A TEST of every number below n
abbrev every : (ℕ → Bool) → ℕ → Bool
every p zero = true
every p (suc n) = p n && every p n

every_at : (p : ℕ → Bool) (n : ℕ) → every p n ≡ true → (b : ℕ) → b < n → p b ≡ true
every_at p zero h b l = absurd (omega arith)
every_at p (suc n) h b l = go (dec_lt b n) (every_at p n (and_right (p n) (every p n) h) b)
  where
    go : Dec (b < n) → (b < n → p b ≡ true) → p b ≡ true
    go (yes k) ih = ih k
    go (no k) ih = let e : b ≡ n = omega arith in rw e (and_left (p n) (every p n) h)

-- SUMS
abbrev one : Bool → ℕ
one x = if x then 1 else 0

pub plain_sum : (bs : Bool) (b r : ℕ) → r ≡ (if eqb b 39 || bs && (eqb b 92 || eqb b 0) then 1 else 0) → 1 + r ≡ cost bs b
unfolding cost
plain_sum bs b r e = ap (1 +◌) e ∙ go (eqb b 39 || bs && (eqb b 92 || eqb b 0))
  where
    go : (x : Bool) → 1 + one x ≡ (if x then 2 else 1)
    go true = refl
    go false = refl

abbrev is_letter : ℕ → Bool
is_letter b = leb 8 b && leb b 13 && not (eqb b 11)

abbrev escape_sum : ℕ → ℕ
escape_sum b = 1 + one (eqb b 39 || eqb b 92 || is_letter b) + 3 * one (ltb b 32 && not (is_letter b))

abbrev unicode_sum : ℕ → ℕ
unicode_sum b =
    one (leb 32 b && leb b 126) + one (eqb b 39 || eqb b 92) + 5 * one (ltb b 32 || eqb b 127 || leb 192 b) + 3 * one (leb 240 b)

escape_all : every (λ b. eqb (escape_sum b) (form_cost Form'.Escape b)) 256 ≡ true
unfolding form_cost is_doubled
escape_all = refl

unicode_all : every (λ b. eqb (unicode_sum b) (form_cost Form'.Unicode b)) 256 ≡ true
unfolding form_cost is_doubled within
unicode_all = refl

pub escape_sum_lem : (b r s : ℕ) → b < 256 → r ≡ one (eqb b 39 || eqb b 92 || is_letter b) → s ≡ one (ltb b 32 && not (is_letter b))
    → 1 + r + 3 * s ≡ form_cost Form'.Escape b
escape_sum_lem b r s l p q =
    rw (p, q) (eqb-true (escape_sum b) (form_cost Form'.Escape b) (every_at (λ b. eqb (escape_sum b) (form_cost Form'.Escape b)) 256 escape_all b l))

pub unicode_sum_lem : (b p q r s : ℕ) → b < 256 → p ≡ one (leb 32 b && leb b 126) → q ≡ one (eqb b 39 || eqb b 92)
    → r ≡ one (ltb b 32 || eqb b 127 || leb 192 b) → s ≡ one (leb 240 b)
    → p + q + 5 * r + 3 * s ≡ form_cost Form'.Unicode b
unicode_sum_lem b p q r s l ep eq er es =
    rw (ep, eq, er, es)
    (eqb-true (unicode_sum b) (form_cost Form'.Unicode b) (every_at (λ b. eqb (unicode_sum b) (form_cost Form'.Unicode b)) 256 unicode_all b l))

-- THE MOST
form_most : (f : Form) (b : ℕ) → form_cost f b ≤ 8
unfolding form_cost
form_most Form'.Escape b = go (is_doubled b) (ltb (letter_of escape_table b) 256) (ltb b 0x20)
  where
    go : (x y z : Bool) → (if x then 2 else if y then 2 else if z then 4 else 1) ≤ 8
    go true y z = omega arith
    go false true z = omega arith
    go false false true = omega arith
    go false false false = omega arith
form_most Form'.Unicode b = go (is_doubled b) (within 0x20 0x7E b) (within 0x80 0xBF b) (leb 0xF0 b)
  where
    go : (x y z w : Bool) → (if x then 2 else if y then 1 else if z then 0 else if w then 8 else 5) ≤ 8
    go true y z w = omega arith
    go false true z w = omega arith
    go false false true w = omega arith
    go false false false true = omega arith
    go false false false false = omega arith

pub byte_cost_most : (m : Manner) (b : ℕ) → cost_by m b ≤ 8
byte_cost_most (Plain bs) b = omega (arith, cost_most bs b)
byte_cost_most Escape b = form_most Form'.Escape b
byte_cost_most Unicode b = form_most Form'.Unicode b
