-- Separators in decimal text: each between two digits, counted, and left out of a copy. Assumes nothing.
use Rattle.std.proofs.Common.{◌≡◌, ℕ, zero, suc, ◌+◌, ◌-◌, ◌<◌, ◌≤◌, Bool, true, false, ◌&&◌, ◌||◌, eqb, ltb, List, [], ◌∷◌, ◌++◌, length, get_or, drop, set, sym, refl, ap, ◌∙◌, add-zero, zero-add, add-one, sub-one, arith, length-drop, drop_of_length-le, get_or-drop, drop-cons, eq-eqb, ne_eqb}
use mathlib.Core.Bool.{and-false, not}
use borrow.Author.Tests.{not-true, not-false}
use lib.ListN.{get_or-eq_default}
use lib.Seq.{paste, paste-zero, paste-suc, length-paste, take-length}
use Rattle.meaning.specs.Bytes.{◌!◌, within, digit, has}
use Rattle.std.specs.Prelude.{if◌then◌else◌}
use Rattle.meaning.specs.Numbers.{placed, strip}
use Rattle.laws.proofs.basics.Tests.{eqb_sym}
use Rattle.decimals.specs.Separating.{is_between, separators_of}
use Rattle.std.specs.Prelude.{Some, None}

-- `is_between`: nothing stands before the first byte, nor behind the last
zero_none : ltb (digit 0) 10 ≡ false
unfolding digit within
zero_none = refl

pub between_first : (t : List ℕ) (i : ℕ) → i ≡ 0 → false ≡ is_between t i
unfolding is_between
between_first t i e = rw (e, zero_none)

pub between_last : (t : List ℕ) (i : ℕ) → length t ≤ i + 1 → false ≡ is_between t i
unfolding is_between
between_last t i h = rw (get_or-eq_default t 0 h, zero_none, and-false (ltb (digit ((0 ∷ t) ! i)) 10))

pub between_both : (t : List ℕ) (i : ℕ) (x y : Bool) → (i ≡ 0 → ⊥) → x ≡ ltb (digit (get_or t (i - 1) 0)) 10 → y ≡ ltb (digit (get_or t (i + 1) 0)) 10
    → (x && y) ≡ is_between t i
unfolding is_between
between_both t zero x y n e f = absurd (n refl)
between_both t (suc i) x y n e f = rw (e, f, sub-one (suc i))

-- ONE BYTE of a text
module _ (t : List ℕ) (i : ℕ) (at : i < length t) where
  strip_other : (get_or t i 0 ≡ 95 → ⊥) → strip (drop i t) ≡ get_or t i 0 ∷ strip (drop (i + 1) t)
  strip_other n = rw (drop-cons t i 0 at, ne_eqb (t ! i) 95 n, add-one i)

  strip_apart : get_or t i 0 ≡ 95 → strip (drop i t) ≡ strip (drop (i + 1) t)
  strip_apart u = rw (drop-cons t i 0 at, eq-eqb (t ! i) 95 u, add-one i)

  placed_other : (p : ℕ) → (get_or t i 0 ≡ 95 → ⊥) → placed 10 p (drop i t) ≡ placed 10 (get_or t i 0) (drop (i + 1) t)
  placed_other p n = rw (drop-cons t i 0 at, ne_eqb (t ! i) 95 n, add-one i)

  placed_apart : get_or t i 0 ≡ 95 → placed 10 ((0 ∷ t) ! i) (drop i t) ≡ (is_between t i && placed 10 (get_or t i 0) (drop (i + 1) t))
  unfolding is_between
  placed_apart u =
      let e : drop (suc i) t ! 0 ≡ t ! suc i = get_or-drop (suc i) t 0 0 ∙ ap (t !◌) (add-zero (suc i)) in
      rw (drop-cons t i 0 at, eq-eqb (t ! i) 95 u, e, add-one i)

-- THE COUNT
pub record Passing (t : List ℕ) (n i : ℕ) : Type 0 where
  pub inside : i ≤ length t
  pub few : n ≤ i
  pub counted : n + length (strip t) ≡ i + length (strip (drop i t))
  pub same : placed 10 ((0 ∷ t) ! i) (drop i t) ≡ placed 10 0 t

pub pass_start : (t : List ℕ) → Passing t 0 0
pass_start t = record { inside = omega arith; few = omega arith; counted = refl; same = refl }

before_is : (t : List ℕ) (i : ℕ) → (0 ∷ t) ! (i + 1) ≡ t ! i
before_is t i = rw (add-one i)

module _ {t : List ℕ} {n i : ℕ} (p : Passing t n i) where
  pub pass_other : i < length t → (get_or t i 0 ≡ 95 → ⊥) → Passing t n (i + 1)
  pass_other at k = record {
    inside = omega arith;
    few = omega (arith, p.few);
    counted = omega (arith, p.counted, ap length (strip_other t i at k));
    same = rw (before_is t i) (sym (placed_other t i at ((0 ∷ t) ! i) k) ∙ p.same);
  }

  pub pass_apart : i < length t → get_or t i 0 ≡ 95 → (b : Bool) → b ≡ is_between t i → not b ≡ false → Passing t (n + 1) (i + 1)
  pass_apart at u b e k = record {
    inside = omega arith;
    few = omega (arith, p.few);
    counted = omega (arith, p.counted, ap length (strip_apart t i at u));
    same =
        rw (before_is t i)
        (sym (placed_apart t i at u ∙ ap (λ (x : Bool). x && placed 10 (get_or t i 0) (drop (i + 1) t)) (sym e ∙ not-false b k)) ∙ p.same);
  }

  pub pass_misplaced : i < length t → get_or t i 0 ≡ 95 → (b : Bool) → b ≡ is_between t i → not b ≡ true → None ≡ separators_of t
  unfolding separators_of
  pass_misplaced at u b e k =
      rw (sym p.same ∙ placed_apart t i at u ∙ ap (λ (x : Bool). x && placed 10 (get_or t i 0) (drop (i + 1) t)) (sym e ∙ not-true b k))

  pub pass_end : length t ≤ i → Some n ≡ separators_of t
  unfolding separators_of
  pass_end h =
      let d = drop_of_length-le t h in
      let s : placed 10 0 t ≡ true = sym p.same ∙ ap (placed 10 ((0 ∷ t) ! i)) d in
      let c : n ≡ length t - length (strip t) = omega (arith, p.counted, p.inside, ap (λ (l : List ℕ). length (strip l)) d) in
      rw s (ap (λ (k : ℕ). Some k) c)

-- THE COPY
pub record Skipping (t old out : List ℕ) (i j : ℕ) : Type 0 where
  pub inside : i ≤ length t
  pub within : j ≤ length (strip t)
  pub room : length (strip t) ≤ length old
  pub rest : strip (drop i t) ≡ drop j (strip t)
  pub same : out ≡ paste old 0 (strip t) j

pub skip_start : (t old : List ℕ) → length (strip t) ≤ length old → Skipping t old old 0 0
skip_start t old h = record { inside = omega arith; within = omega arith; room = h; rest = refl; same = paste-zero old 0 (strip t) }

module _ {t old out : List ℕ} {i j : ℕ} (s : Skipping t old out i j) where
  pub skip_long : length out ≡ length old
  skip_long = ap length s.same ∙ length-paste old 0 (strip t) j (omega (arith, s.within, s.room)) s.within

  pub skip_apart : i < length t → get_or t i 0 ≡ 95 → Skipping t old out (i + 1) j
  skip_apart at u = record {
    inside = omega arith;
    within = s.within;
    room = s.room;
    rest = sym (strip_apart t i at u) ∙ s.rest;
    same = s.same;
  }

  module _ (at : i < length t) (n : get_or t i 0 ≡ 95 → ⊥) where
    next : get_or t i 0 ∷ strip (drop (i + 1) t) ≡ drop j (strip t)
    next = sym (strip_other t i at n) ∙ s.rest

    more : j < length (strip t)
    more = omega (arith, ap length next, length-drop j (strip t))

    split : get_or t i 0 ∷ strip (drop (i + 1) t) ≡ get_or (strip t) j 0 ∷ drop (suc j) (strip t)
    split = next ∙ drop-cons (strip t) j 0 more

    pub skip_room : j < length out
    skip_room = omega (arith, more, skip_long, s.room)

    pub skip_copy : Skipping t old (set out j (get_or t i 0)) (i + 1) (j + 1)
    skip_copy =
        let b : get_or t i 0 ≡ get_or (strip t) j 0 = cc split in
        let r : strip (drop (i + 1) t) ≡ drop (suc j) (strip t) = cc split in
        record {
          inside = omega arith;
          within = omega (arith, more);
          room = s.room;
          rest = r ∙ ap (λ (k : ℕ). drop k (strip t)) (sym (add-one j));
          same =
              rw (b, s.same) (ap (λ (k : ℕ). set (paste old 0 (strip t) j) k (get_or (strip t) j 0)) (sym (zero-add j))
              ∙ paste-suc old 0 (strip t) j 0 (omega (arith, more, s.room)) more ∙ ap (paste old 0 (strip t)) (sym (add-one j)));
        }

  pub skip_end : length t ≤ i → out ≡ strip t ++ drop (length (strip t)) old
  skip_end h =
      let d : strip (drop i t) ≡ [] = ap strip (drop_of_length-le t h) in
      let e : j ≡ length (strip t) = omega (arith, s.within, ap length (sym d ∙ s.rest), length-drop j (strip t)) in
      s.same ∙ ap (paste old 0 (strip t)) e
      ∙ ap (λ (l : List ℕ). l ++ drop (0 + length (strip t)) old) (take-length (strip t)) ∙ ap (λ (k : ℕ). strip t ++ drop k old) (zero-add (length (strip t)))

-- NONE, OR SOME
pub strip_le : (t : List ℕ) → length (strip t) ≤ length t
strip_le [] = omega arith
strip_le (b ∷ t) = go (eqb b 95) (strip_le t)
  where
    go : (x : Bool) → length (strip t) ≤ length t → length (if x then strip t else b ∷ strip t) ≤ suc (length t)
    go true h = omega arith
    go false h = omega arith

pub has_none : (t : List ℕ) → length (strip t) ≡ length t → has 95 t ≡ false
has_none [] e = refl
has_none (b ∷ t) e = rw (eqb_sym 95 b) (go (eqb b 95) refl e (has_none t) (strip_le t))
  where
    go : (x : Bool) → eqb b 95 ≡ x → length (if x then strip t else b ∷ strip t) ≡ suc (length t) → (length (strip t) ≡ length t → has 95 t ≡ false)
        → length (strip t) ≤ length t → (x || has 95 t) ≡ false
    go true u e ih h = absurd (omega arith)
    go false u e ih h = ih (omega arith)

pub has_some : (t : List ℕ) → length (strip t) < length t → has 95 t ≡ true
has_some [] e = absurd (omega arith)
has_some (b ∷ t) e = rw (eqb_sym 95 b) (go (eqb b 95) e (has_some t))
  where
    go : (x : Bool) → length (if x then strip t else b ∷ strip t) < suc (length t) → (length (strip t) < length t → has 95 t ≡ true)
        → (x || has 95 t) ≡ true
    go true e ih = refl
    go false e ih = ih (omega arith)
