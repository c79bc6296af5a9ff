-- The newest of the rows that pass a test. Assumes nothing.
use mathlib.Core.Path.{◌≡◌, refl, sym, ap, ◌∙◌}
use mathlib.Core.Bool.{Bool, true, false, false≢true}
use mathlib.Core.Logic.{⊎_elim}
use Prim.Native.Nat.{ℕ, zero, suc, ◌≤◌, ◌<◌}
use native.Mathlib.Nat.{suc_inj, eq-or-lt_of_le, le_of_suc-le-suc}
use native.Mathlib.Omega.{arith}
use Rattle.std.specs.Prelude.{if◌then◌else◌}
use Rattle.doubles.specs.Rows.{newest}

-- ONE ROW: it is the newest if it passes, and else the newest before it is
module _ (p : ℕ → Bool) (n : ℕ) where
  pub newest_here : p n ≡ true → newest p (suc n) ≡ suc n
  newest_here e = rw e

  pub newest_past : p n ≡ false → newest p (suc n) ≡ newest p n
  newest_past e = rw e

pub newest_le : (p : ℕ → Bool) (n : ℕ) → newest p n ≤ n
newest_le p zero = omega arith
newest_le p (suc n) = go (p n) (newest_le p n)
  where
    go : (x : Bool) → newest p n ≤ n → (if x then suc n else newest p n) ≤ suc n
    go true h = omega arith
    go false h = omega arith

-- the newest passes
pub newest_pass : (p : ℕ → Bool) (n m : ℕ) → newest p n ≡ suc m → p m ≡ true
newest_pass p zero m e = absurd (omega arith)
newest_pass p (suc n) m e = go (p n) refl e (newest_pass p n m)
  where
    go : (x : Bool) → p n ≡ x → (if x then suc n else newest p n) ≡ suc m → (newest p n ≡ suc m → p m ≡ true) → p m ≡ true
    go true q h before = ap p (sym (suc_inj h)) ∙ q
    go false q h before = before h

-- and none behind it does
pub newest_last : (p : ℕ → Bool) (n m : ℕ) → newest p n ≤ m → m < n → p m ≡ false
newest_last p zero m h l = absurd (omega arith)
newest_last p (suc n) m h l = go (p n) refl h (newest_last p n m)
  where
    go : (x : Bool) → p n ≡ x → (if x then suc n else newest p n) ≤ m → (newest p n ≤ m → m < n → p m ≡ false) → p m ≡ false
    go true q k before = absurd (omega arith)
    go false q k before = ⊎_elim (λ e. ap p e ∙ q) (before k) (eq-or-lt_of_le (le_of_suc-le-suc l))

-- a row that passes, with none behind it that does, is the newest
pub newest_is : (p : ℕ → Bool) (n m : ℕ) → m < n → p m ≡ true → ((j : ℕ) → m < j → j < n → p j ≡ false) → newest p n ≡ suc m
newest_is p zero m l e none = absurd (omega arith)
newest_is p (suc n) m l e none =
    ⊎_elim
    (λ z. newest_here p n (ap p (sym z) ∙ e) ∙ ap suc (sym z))
    (λ b. rw (none n b (omega arith)) (newest_is p n m b e (λ j h k. none j h (omega arith))))
    (eq-or-lt_of_le (le_of_suc-le-suc l))

pub newest_none : (p : ℕ → Bool) (n : ℕ) → ((j : ℕ) → j < n → p j ≡ false) → newest p n ≡ 0
newest_none p zero none = refl
newest_none p (suc n) none = rw (none n (omega arith)) (newest_none p n (λ j h. none j (omega arith)))

-- SKIPPING: where all that pass q pass p, the newest that passes q is not behind the newest that passes p
pub newest_skip : (p q : ℕ → Bool) → ((j : ℕ) → q j ≡ true → p j ≡ true) → (n : ℕ) → newest q n ≡ newest q (newest p n)
newest_skip p q h zero = refl
newest_skip p q h (suc n) = go (p n) (q n) refl refl (newest_skip p q h n)
  where
    go : (x y : Bool) → p n ≡ x → q n ≡ y → newest q n ≡ newest q (newest p n)
        → (if y then suc n else newest q n) ≡ newest q (if x then suc n else newest p n)
    go true y e f before = rw f
    go false true e f before = absurd (false≢true (sym e ∙ h n f))
    go false false e f before = before
