-- Digits of base 2, 8 and 16: the base, and what two halves say of the digits. Assumes nothing.
use mathlib.Core.Path.{◌≡◌, refl, ap, sym, ◌∙◌}
use mathlib.Core.Bool.{Bool, true, false}
use mathlib.Core.List.{List}
use Prim.Native.Nat.{ℕ, ◌-◌, ◌^◌, ◌≤◌}
use native.Mathlib.Nat.{div-add-mod'}
use native.Mathlib.Omega.{arith}
use borrow.Author.Tests.{ltb-false}
use lib.Dec.{eqb, ltb}
use lib.ListN.{length, take, drop}
use Rattle.std.specs.Prelude.{if◌then◌else◌}
use Rattle.meaning.specs.Numbers.{sign_length, unsigned}
use Rattle.meaning.specs.Halves.{joined_halves}
use Rattle.numbers.specs.Values.{Spelt, misspelt, spelt, digits_from, radix_by, halves_by, wide_of}
use Rattle.numbers.specs.declared.radix.Halves.{Halves}
use Rattle.numbers.proofs.Prefixes.{tail_part}
use Rattle.numbers.proofs.Spelled.{Above}
use Rattle.numbers.proofs.Texts.{IsBase, two, eight, ten, sixteen}
use Rattle.std.specs.Prelude.{Option, Some, None}

-- THE BASE
pub radix_small : (β : ℕ) → radix_by β ≤ 16
unfolding radix_by
radix_small β = go (eqb β 16) (eqb β 8)
  where
    go : (x y : Bool) → (if x then 16 else if y then 8 else 2) ≤ 16
    go true y = omega arith
    go false true = omega arith
    go false false = omega arith

pub base_small : (β : ℕ) → radix_by β ≡ β → β ≤ 16
base_small β w = let h = radix_small β in omega arith

pub radix_known : (β : ℕ) → IsBase β → (β ≡ 10 → ⊥) → radix_by β ≡ β
unfolding radix_by
radix_known β two n = refl
radix_known β eight n = refl
radix_known β ten n = absurd (n refl)
radix_known β sixteen n = refl

-- WHAT THE HALVES SAY of the digits
pub wide_value : (h : Halves) (s : Spelt) → wide_of s ≡ Some h → s ≡ spelt (joined_halves h.hi h.lo)
wide_value h misspelt e = cc
wide_value h (spelt n) e = go (ltb n (2 ^ 128)) e
  where
    go : (x : Bool) → (if x then Some (halves_by n) else None) ≡ Some h → spelt n ≡ spelt (joined_halves h.hi h.lo)
    go true e =
        let k : halves_by n ≡ h = cc in
        ap spelt (sym (div-add-mod' n (2 ^ 64)) ∙ ap (λ (x : Halves). joined_halves x.hi x.lo) k)
    go false e = cc

pub wide_great : (s : Spelt) → wide_of s ≡ None → Above (2 ^ 128) s
wide_great misspelt e n k = absurd (let z : ◌≡◌ {A = ℕ} 0 1 = cc in let y : ⊥ = omega arith in y)
wide_great (spelt m) e n k = go (ltb m (2 ^ 128)) refl e
  where
    go : (x : Bool) → ltb m (2 ^ 128) ≡ x → (if x then Some (halves_by m) else None) ≡ None → 2 ^ 128 ≤ n
    go true h e = absurd (let z : ◌≡◌ {A = ℕ} 0 1 = cc in let y : ⊥ = omega arith in y)
    go false h e = let z : m ≡ n = cc in rw z at (ltb-false m (2 ^ 128) h)

-- behind the sign, as the code lends it
pub radix_read : (β s : ℕ) (t : List ℕ) (r : Option Halves) → radix_by β ≡ β → s ≡ sign_length t
    → r ≡ wide_of (digits_from (radix_by β) 0 false (take (length t - s) (drop s t))) → r ≡ wide_of (digits_from β 0 false (unsigned t))
radix_read β s t r w e f =
    f ∙ ap (λ (u : List ℕ). wide_of (digits_from (radix_by β) 0 false u)) (tail_part s t ∙ ap (λ (n : ℕ). drop n t) e)
    ∙ ap (λ (x : ℕ). wide_of (digits_from x 0 false (unsigned t))) w
