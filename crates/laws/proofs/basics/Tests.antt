-- Facts about tests: booleans, comparisons of numbers, and `within`. That a comparison holds or fails, from the order of its numbers and
-- back, is in borrow.Author.Tests (le-leb, lt-leb, leb-true, leb-false, lt-ltb, le-ltb, eq-eqb, ne-eqb and others). Assumes nothing.
use mathlib.Core.Path.{◌≡◌, refl, sym, ◌∙◌, subst}
use mathlib.Core.Bool.{Bool, true, false, ◌&&◌, ◌||◌, and-false, false≢true}
use Prim.Native.Nat.{ℕ, suc, ◌≤◌, ◌<◌}
use native.Mathlib.Omega.{arith}
use lib.Dec.{T, eqb, leb}
use borrow.Author.Tests.{le-leb, lt-leb, leb-true, leb-false, eq-eqb, eqb-true}
use Rattle.meaning.specs.Bytes.{within}
use Rattle.std.specs.Prelude.{if◌then◌else◌}

pub T→true : (x : Bool) → T x → x ≡ true
T→true true t = refl
T→true false t = absurd t

pub true→T : (x : Bool) → x ≡ true → T x
true→T x e = subst T (sym e) tt

pub and_left : (x y : Bool) → (x && y) ≡ true → x ≡ true
and_left true y e = refl
and_left false y e = e

pub and_right : (x y : Bool) → (x && y) ≡ true → y ≡ true
and_right true y e = e
and_right false y e = absurd (false≢true e)

pub or_left : (x y : Bool) → (x || y) ≡ false → x ≡ false
or_left true y e = e
or_left false y e = refl

pub or_right : (x y : Bool) → (x || y) ≡ false → y ≡ false
or_right true y e = absurd (false≢true (sym e))
or_right false y e = e

pub if_same : (x : Bool) (n : ℕ) → (if x then n else n) ≡ n
if_same true n = refl
if_same false n = refl

pub if_suc : (x : Bool) (m n : ℕ) → (if x then m else 0) ≡ suc n → (x ≡ true) × (m ≡ suc n)
if_suc true m n e = (refl, e)
if_suc false m n e = absurd (omega arith)

pub eqb_same : (n : ℕ) → eqb n n ≡ true
eqb_same n = eq-eqb n n refl

pub eqb_sym : (m n : ℕ) → eqb m n ≡ eqb n m
eqb_sym m n = go (eqb m n) (eqb n m) refl refl
  where
    go : (x y : Bool) → eqb m n ≡ x → eqb n m ≡ y → x ≡ y
    go true true p q = refl
    go false false p q = refl
    go true false p q = sym (eq-eqb n m (sym (eqb-true m n p))) ∙ q
    go false true p q = sym p ∙ eq-eqb m n (sym (eqb-true n m q))

pub within_yes : (lo hi b : ℕ) → lo ≤ b → b ≤ hi → within lo hi b ≡ true
unfolding within
within_yes lo hi b p q = rw (le-leb lo b p, le-leb b hi q)

pub within_below : (lo hi b : ℕ) → b < lo → within lo hi b ≡ false
unfolding within
within_below lo hi b p = rw (lt-leb lo b p)

pub within_above : (lo hi b : ℕ) → hi < b → within lo hi b ≡ false
unfolding within
within_above lo hi b p = rw (lt-leb b hi p) (and-false (leb lo b))

pub within_bounds : (lo hi b : ℕ) → within lo hi b ≡ true → (lo ≤ b) × (b ≤ hi)
unfolding within
within_bounds lo hi b e = (leb-true lo b (and_left (leb lo b) (leb b hi) e), leb-true b hi (and_right (leb lo b) (leb b hi) e))

pub within_outside : (lo hi b : ℕ) → within lo hi b ≡ false → lo ≤ b → hi < b
unfolding within
within_outside lo hi b e p = leb-false b hi (rw (le-leb lo b p) at e)
