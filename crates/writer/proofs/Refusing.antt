-- What the writers refuse, in the order of their tests: by x, y and z, which the code has found to be the tests of a question. Assumes nothing.
use mathlib.Core.Path.{◌≡◌, refl, sym, ◌∙◌}
use mathlib.Core.Bool.{Bool, true, false, not}
use mathlib.Core.List.{List}
use Prim.Native.Nat.{ℕ}
use borrow.Author.Tests.{not-true, not-false}
use Rattle.meaning.specs.declared.WritingError.TheVariants.{OverLimit, NotUtf8, HoldsNul}
use Rattle.meaning.specs.Answers.{Outcome, Meets}
use Rattle.laws.proofs.writing.Writers.{tried, tried_limit, tried_utf8, tried_nul, Passed}
use Rattle.std.specs.Prelude.{Err}

pub met : {A : Type 0} (o : Outcome A) (r : A) (out : List ℕ) → o ≡ record { answer = r; buffer = out } → Meets o r out
met o r out e = rw e (record { answer = refl; buffer = refl })

module _ (limit valid nul : Bool) (t out : List ℕ) (x : Bool) (ex : x ≡ limit) where
  pub over_limit_lem : x ≡ true → Meets (tried limit valid nul t out) (Err OverLimit) out
  over_limit_lem h = met (tried limit valid nul t out) (Err OverLimit) out (tried_limit limit valid nul t out (sym ex ∙ h))

  module _ (nx : x ≡ false) (y : Bool) (ey : y ≡ valid) where
    pub not_utf8 : not y ≡ true → Meets (tried limit valid nul t out) (Err NotUtf8) out
    not_utf8 h = met (tried limit valid nul t out) (Err NotUtf8) out (tried_utf8 limit valid nul t out (sym ex ∙ nx) (sym ey ∙ not-true y h))

    module _ (ny : not y ≡ false) (z : Bool) (ez : z ≡ nul) where
      pub holds_nul : z ≡ true → Meets (tried limit valid nul t out) (Err HoldsNul) out
      holds_nul h =
          met (tried limit valid nul t out) (Err HoldsNul) out (tried_nul limit valid nul t out (sym ex ∙ nx) (sym ey ∙ not-false y ny) (sym ez ∙ h))

      pub all_passed : z ≡ false → Passed limit valid nul
      all_passed h = record { limit = sym ex ∙ nx; valid = sym ey ∙ not-false y ny; nul = sym ez ∙ h }
