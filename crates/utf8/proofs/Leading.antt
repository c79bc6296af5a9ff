-- What a first byte makes due, by the bounds that the places ask for. Assumes nothing.
use Rattle.std.proofs.Common.{◌≡◌, ℕ, zero, suc, ◌<◌, ◌≤◌, Bool, true, false, ◌||◌, eqb, ltb, leb, sym, refl, ◌∙◌, arith, ltb-false, ltb-true, eq-eqb, ne_eqb, le-leb}
use native.Mathlib.Decide.{dec_lt}
use borrow.Author.Tests.{lt-leb}
use Rattle.meaning.specs.Bytes.{within}
use Rattle.std.specs.Prelude.{if◌then◌else◌}
use Rattle.meaning.specs.Chars.{due, broken, lead}
use Rattle.laws.proofs.basics.Tests.{or_left, or_right, within_bounds, within_outside}
use Rattle.laws.proofs.utf8.Leads.{lead_at}
use Rattle.utf8.specs.Places.{low_of, high_of, begins}

low_other : (b : ℕ) → (b ≡ 0xE0 → ⊥) → (b ≡ 0xF0 → ⊥) → low_of b ≡ 0x80
unfolding low_of
low_other b p q = rw (ne_eqb b 0xE0 p, ne_eqb b 0xF0 q)

high_other : (b : ℕ) → (b ≡ 0xED → ⊥) → (b ≡ 0xF4 → ⊥) → high_of b ≡ 0xBF
unfolding high_of
high_other b p q = rw (ne_eqb b 0xED p, ne_eqb b 0xF4 q)

low_three : (b : ℕ) → b ≡ 0xE0 → low_of b ≡ 0xA0
unfolding low_of
low_three b p = rw (eq-eqb b 0xE0 p)

low_four : (b : ℕ) → b ≡ 0xF0 → low_of b ≡ 0x90
unfolding low_of
low_four b p = let n : b ≡ 0xE0 → ⊥ = λ e. omega arith in rw (ne_eqb b 0xE0 n, eq-eqb b 0xF0 p)

high_three : (b : ℕ) → b ≡ 0xED → high_of b ≡ 0x9F
unfolding high_of
high_three b p = rw (eq-eqb b 0xED p)

high_four : (b : ℕ) → b ≡ 0xF4 → high_of b ≡ 0x8F
unfolding high_of
high_four b p = let n : b ≡ 0xED → ⊥ = λ e. omega arith in rw (ne_eqb b 0xED n, eq-eqb b 0xF4 p)

-- a byte below E0 hex bounds what follows it as any later byte does
pub low_plain : (b : ℕ) → b < 0xE0 → low_of b ≡ 0x80
low_plain b h = low_other b (λ e. omega arith) (λ e. omega arith)

pub high_plain : (b : ℕ) → b < 0xE0 → high_of b ≡ 0xBF
high_plain b h = high_other b (λ e. omega arith) (λ e. omega arith)

pub high_most : (b : ℕ) → high_of b ≤ 0xBF
unfolding high_of
high_most b = go (eqb b 0xED) (eqb b 0xF4)
  where
    go : (x y : Bool) → (if x then 0x9F else if y then 0x8F else 0xBF) ≤ 0xBF
    go true y = omega arith
    go false true = omega arith
    go false false = omega arith

-- n is more than k
abbrev pub above : ℕ → ℕ → Bool
above k zero = false
above zero (suc n) = true
above (suc k) (suc n) = above k n

pub above_few : (k n : ℕ) → n ≤ k → above k n ≡ false
above_few k zero h = refl
above_few zero (suc n) h = absurd (omega arith)
above_few (suc k) (suc n) h = above_few k n (omega arith)

-- b begins a character of n bytes more
pub record Leading (b : ℕ) : Type 0 where
  pub n : ℕ
  pub few : n ≤ 3
  pub makes : lead b ≡ due n (low_of b) (high_of b)
  pub some : leb 0xC0 b ≡ above 0 n
  pub two : leb 0xE0 b ≡ above 1 n
  pub three : leb 0xF0 b ≡ above 2 n

-- by the row that it has
made : (n b lo hi : ℕ) → due n lo hi ≡ lead b → low_of b ≡ lo → high_of b ≡ hi → lead b ≡ due n (low_of b) (high_of b)
made n b lo hi e p q = sym e ∙ rw (p, q)

lead_three : (b : ℕ) → 0xE0 ≤ b → b < 0xF0 → lead b ≡ due 2 (low_of b) (high_of b)
lead_three b h k = go (dec_lt b 0xE1) (dec_lt b 0xED) (dec_lt b 0xEE)
  where
    go : Dec (b < 0xE1) → Dec (b < 0xED) → Dec (b < 0xEE) → lead b ≡ due 2 (low_of b) (high_of b)
    go (yes p) q r = made 2 b 0xA0 0xBF (lead_at 2 b (omega arith)) (low_three b (omega arith)) (high_other b (λ e. omega arith) (λ e. omega arith))
    go (no p) (yes q) r =
        made 2 b 0x80 0xBF (lead_at 3 b (omega arith)) (low_other b (λ e. omega arith) (λ e. omega arith)) (high_other b (λ e. omega arith) (λ e. omega arith))
    go (no p) (no q) (yes r) = made 2 b 0x80 0x9F (lead_at 4 b (omega arith)) (low_other b (λ e. omega arith) (λ e. omega arith)) (high_three b (omega arith))
    go (no p) (no q) (no r) =
        made 2 b 0x80 0xBF (lead_at 5 b (omega arith)) (low_other b (λ e. omega arith) (λ e. omega arith)) (high_other b (λ e. omega arith) (λ e. omega arith))

lead_four : (b : ℕ) → 0xF0 ≤ b → b ≤ 0xF4 → lead b ≡ due 3 (low_of b) (high_of b)
lead_four b h k = go (dec_lt b 0xF1) (dec_lt b 0xF4)
  where
    go : Dec (b < 0xF1) → Dec (b < 0xF4) → lead b ≡ due 3 (low_of b) (high_of b)
    go (yes p) q = made 3 b 0x90 0xBF (lead_at 6 b (omega arith)) (low_four b (omega arith)) (high_other b (λ e. omega arith) (λ e. omega arith))
    go (no p) (yes q) =
        made 3 b 0x80 0xBF (lead_at 7 b (omega arith)) (low_other b (λ e. omega arith) (λ e. omega arith)) (high_other b (λ e. omega arith) (λ e. omega arith))
    go (no p) (no q) = made 3 b 0x80 0x8F (lead_at 8 b (omega arith)) (low_other b (λ e. omega arith) (λ e. omega arith)) (high_four b (omega arith))

leading_ascii : (b : ℕ) → b < 0x80 → Leading b
leading_ascii b h = record {
  n = 0;
  few = omega arith;
  makes = made 0 b 0x80 0xBF (lead_at 0 b (omega arith)) (low_plain b (omega arith)) (high_plain b (omega arith));
  some = lt-leb 0xC0 b (omega arith);
  two = lt-leb 0xE0 b (omega arith);
  three = lt-leb 0xF0 b (omega arith);
}

leading_more : (b : ℕ) → 0xC2 ≤ b → b ≤ 0xF4 → Leading b
leading_more b h k = go (dec_lt b 0xE0) (dec_lt b 0xF0)
  where
    go : Dec (b < 0xE0) → Dec (b < 0xF0) → Leading b
    go (yes p) q = record {
      n = 1;
      few = omega arith;
      makes = made 1 b 0x80 0xBF (lead_at 1 b (omega arith)) (low_plain b p) (high_plain b p);
      some = le-leb 0xC0 b (omega arith);
      two = lt-leb 0xE0 b p;
      three = lt-leb 0xF0 b (omega arith);
    }
    go (no p) (yes q) = record {
      n = 2;
      few = omega arith;
      makes = lead_three b (omega arith) q;
      some = le-leb 0xC0 b (omega arith);
      two = le-leb 0xE0 b (omega arith);
      three = lt-leb 0xF0 b q;
    }
    go (no p) (no q) = record {
      n = 3;
      few = omega arith;
      makes = lead_four b (omega arith) k;
      some = le-leb 0xC0 b (omega arith);
      two = le-leb 0xE0 b (omega arith);
      three = le-leb 0xF0 b (omega arith);
    }

pub leading : (b : ℕ) → begins b ≡ true → Leading b
unfolding begins
leading b e = go (ltb b 0x80) refl e
  where
    go : (x : Bool) → ltb b 0x80 ≡ x → (x || within 0xC2 0xF4 b) ≡ true → Leading b
    go true q e = leading_ascii b (ltb-true b 0x80 q)
    go false q e = let k = within_bounds 0xC2 0xF4 b e in leading_more b k.0 k.1

pub leading_none : (b : ℕ) → begins b ≡ false → lead b ≡ broken
unfolding begins
leading_none b e = go (dec_lt b 0xC2)
  where
    go : Dec (b < 0xC2) → lead b ≡ broken
    go (yes p) = let q = ltb-false b 0x80 (or_left (ltb b 0x80) (within 0xC2 0xF4 b) e) in sym (lead_at 9 b (omega arith))
    go (no p) = let q = within_outside 0xC2 0xF4 b (or_right (ltb b 0x80) (within 0xC2 0xF4 b) e) (omega arith) in sym (lead_at 9 b (omega arith))
