-- [01 Numbers an answer can carry] "`as_bool` and `as_null` read no source and give only 0 or 1": which kinds give which. Assumes nothing.
use mathlib.Core.Logic.{◌⊎◌, inl, inr}
use mathlib.Core.Path.{◌≡◌, refl}
use mathlib.Core.Bool.{Bool, true, false}
use Prim.Native.Nat.{ℕ}
use lib.Dec.{eqb}
use borrow.Author.Tests.{eqb-true, eqb-false}
use Rattle.meaning.specs.declared.LiteralKind.{LiteralKind}
use Rattle.meaning.specs.declared.LiteralExpected.TheVariants as Expected
use Rattle.meaning.specs.declared.Refusal.TheVariants.{WrongKind}
use Rattle.std.specs.Prelude.{if◌then◌else◌, Ok, Err}
use Rattle.meaning.specs.Answers.{kind_code, truth_number, nullness_number}
use Rattle.meaning.specs.Questions.{bool_question, null_question}

-- 0 where a fact holds, and 1 where it does not
pub data ZeroOrOne (fact : Type 0) : ℕ → Type 0 where
  zero_by : fact → ZeroOrOne fact 0
  one_by : (fact → ⊥) → ZeroOrOne fact 1

pub only_0_or_1 : {fact : Type 0} {n : ℕ} → ZeroOrOne fact n → (n ≡ 0) ⊎ (n ≡ 1)
only_0_or_1 (zero_by f) = inl refl
only_0_or_1 (one_by f) = inr refl

pub bool_number : (k : LiteralKind) → ZeroOrOne ((kind_code k ≡ 5) ⊎ (kind_code k ≡ 6)) (truth_number (bool_question k))
bool_number k = go (eqb (kind_code k) 5) (eqb (kind_code k) 6) refl refl
  where
    neither : eqb (kind_code k) 5 ≡ false → eqb (kind_code k) 6 ≡ false → (kind_code k ≡ 5) ⊎ (kind_code k ≡ 6) → ⊥
    neither e f (inl g) = eqb-false (kind_code k) 5 e g
    neither e f (inr g) = eqb-false (kind_code k) 6 f g

    go : (x y : Bool) → eqb (kind_code k) 5 ≡ x → eqb (kind_code k) 6 ≡ y
        → ZeroOrOne ((kind_code k ≡ 5) ⊎ (kind_code k ≡ 6))
        (truth_number (if x then Ok true else if y then Ok false else Err (WrongKind Expected.Boolean k)))
    go true y e f = zero_by (inl (eqb-true (kind_code k) 5 e))
    go false true e f = zero_by (inr (eqb-true (kind_code k) 6 f))
    go false false e f = one_by (neither e f)

pub null_number : (k : LiteralKind) → ZeroOrOne (kind_code k ≡ 7) (nullness_number (null_question k))
null_number k = go (eqb (kind_code k) 7) refl
  where
    go : (x : Bool) → eqb (kind_code k) 7 ≡ x
        → ZeroOrOne (kind_code k ≡ 7) (nullness_number (if x then (Ok tt) else Err (WrongKind Expected.Null k)))
    go true e = zero_by (eqb-true (kind_code k) 7 e)
    go false e = one_by (eqb-false (kind_code k) 7 e)
