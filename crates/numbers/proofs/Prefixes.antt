-- The sign and the radix prefix at the front of a text. Assumes nothing.
use mathlib.Core.Path.{◌≡◌, refl, ap, sym, ◌∙◌}
use mathlib.Core.Bool.{Bool, true, false, ◌||◌, false≢true}
use mathlib.Core.List.{List, [], ◌∷◌}
use Prim.Native.Nat.{ℕ, suc, ◌-◌, ◌≤◌, ◌<◌}
use native.Mathlib.Nat.{le_of_eq}
use Prim.Native.Char.{code}
use native.Mathlib.Omega.{arith}
use borrow.Author.Tests.{eq-eqb, ne_eqb}
use lib.Dec.{eqb}
use lib.ListN.{length, get_or, take, drop, length-drop}
use lib.Seq.{take_all}
use Rattle.meaning.specs.Bytes.{◌!◌, ascii, has}
use Rattle.std.specs.Prelude.{if◌then◌else◌}
use Rattle.meaning.specs.Numbers.{sign_length, is_minus, base_by, prefix_by, radix_prefix}

-- a sign, or none, from the tests on the first byte
pub sign_none : (t : List ℕ) → length t ≡ 0 → (false ≡ is_minus t) × (0 ≡ sign_length t)
unfolding is_minus sign_length
sign_none [] h = (refl, refl)
sign_none (b ∷ t) h = absurd (omega arith)

pub sign_there : (t : List ℕ) → (eqb (get_or t 0 0) 45 || eqb (get_or t 0 0) 43) ≡ true → (eqb (get_or t 0 0) 45 ≡ is_minus t) × (1 ≡ sign_length t)
unfolding is_minus sign_length
sign_there t e = (refl, go (eqb (t ! 0) 43) (eqb (t ! 0) 45) e)
  where
    go : (x y : Bool) → (y || x) ≡ true → ◌≡◌ {A = ℕ} 1 (if x || (y || false) then 1 else 0)
    go true y e = refl
    go false true e = refl
    go false false e = absurd (false≢true e)

pub sign_other : (t : List ℕ) → (eqb (get_or t 0 0) 45 || eqb (get_or t 0 0) 43) ≡ false → (false ≡ is_minus t) × (0 ≡ sign_length t)
unfolding is_minus sign_length
sign_other t e = go (eqb (t ! 0) 43) (eqb (t ! 0) 45) e
  where
    go : (x y : Bool) → (y || x) ≡ false → (false ≡ y) × ◌≡◌ {A = ℕ} 0 (if x || (y || false) then 1 else 0)
    go false false e = (refl, refl)
    go true true e = absurd (false≢true (sym e))
    go true false e = absurd (false≢true (sym e))
    go false true e = absurd (false≢true (sym e))

pub sign_inside : (t : List ℕ) (s : ℕ) → s ≡ sign_length t → s ≤ length t
unfolding sign_length
sign_inside [] s e = omega arith
sign_inside (b ∷ t) s e = rw e (go (has b (ascii "+-")))
  where
    go : (x : Bool) → (if x then 1 else 0) ≤ suc (length t)
    go true = omega arith
    go false = omega arith

pub sign_some : (t : List ℕ) → sign_length t ≡ 1 → 1 ≤ length t
sign_some t e = sign_inside t 1 (sym e)

pub sign_one : (t : List ℕ) (s : ℕ) → s ≡ sign_length t → (s ≡ 0 → ⊥) → sign_length t ≡ 1
unfolding sign_length
sign_one t s e n = go (has (t ! 0) (ascii "+-")) e
  where
    go : (x : Bool) → s ≡ (if x then 1 else 0) → ◌≡◌ {A = ℕ} (if x then 1 else 0) 1
    go true e = refl
    go false e = absurd (n e)

-- a part up to the end, as the code lends it
pub tail_part : (s : ℕ) (t : List ℕ) → take (length t - s) (drop s t) ≡ drop s t
tail_part s t = take_all (length t - s) (drop s t) (le_of_eq (length-drop s t))

-- base ten: a short text, another first byte, another second one
pub ten_short : (t : List ℕ) → length t < 2 → prefix_by 10 ≡ radix_prefix t
unfolding radix_prefix base_by
ten_short [] h = refl
ten_short (b ∷ []) h = go (eqb b (code "0"))
  where
    go : (x : Bool) → prefix_by 10 ≡ prefix_by (if x then 10 else 10)
    go true = refl
    go false = refl
ten_short (b ∷ c ∷ t) h = absurd (omega arith)

pub ten_first : (t : List ℕ) → (get_or t 0 0 ≡ 48 → ⊥) → prefix_by 10 ≡ radix_prefix t
unfolding radix_prefix
ten_first t n = rw (ne_eqb (t ! 0) (code "0") n)

module _ (t : List ℕ) (β : ℕ) (z : get_or t 0 0 ≡ 48) (e : β ≡ base_by (get_or t 1 0)) where
  by_second : prefix_by β ≡ radix_prefix t
  unfolding radix_prefix
  by_second = rw (eq-eqb (t ! 0) (code "0") z, e)

  pub ten_second : β ≡ 10 → prefix_by 10 ≡ radix_prefix t
  ten_second k = ap prefix_by (sym k) ∙ by_second

  pub radix_second : (β ≡ 10 → ⊥) → record { base = β; start = 2 } ≡ radix_prefix t
  radix_second k = ap (λ (x : Bool). record { base = β; start = if x then 0 else 2 }) (sym (ne_eqb β 10 k)) ∙ by_second
