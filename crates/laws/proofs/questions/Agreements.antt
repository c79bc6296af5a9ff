-- [01 Numbers an answer can carry] "Two sources in neither of which a span gives 3, agreeing inside it, get the same answers with the same buffer": of what
-- calls return. A call's result and final buffer are whatever its contract permits. One law with a buffer, one without. Assumes nothing.
use Rattle.std.specs.Prelude.{Result}
use mathlib.Core.Path.{◌≡◌, sym, ◌∙◌}
use mathlib.Core.List.{List}
use Prim.Native.Nat.{ℕ}
use Rattle.meaning.specs.declared.Settings.{Settings}
use Rattle.meaning.specs.declared.Literal.{Literal}
use Rattle.meaning.specs.declared.Text.{Text}
use Rattle.meaning.specs.Cutting.{off}
use Rattle.meaning.specs.Answers.{Outcome, Meets}
use Rattle.meaning.specs.Questions.{string_question, plain_question, decimal_question, bits_question, temporal_question, source_question, money_question}
use Rattle.meaning.specs.Questions.{charset_question, i64_question}
use Rattle.meaning.specs.Dates.{date_question}
use Rattle.meaning.specs.Packing.{packed_question}
use Rattle.laws.proofs.questions.Sources as Sources'
use Rattle.laws.proofs.questions.Sources.{Agree}
use Rattle.laws.proofs.questions.Determined.{Same, meets_unique}
use Rattle.meaning.specs.declared.Refusal.{Refusal}
use Rattle.std.specs.Prelude.{ℤ}
use Rattle.meaning.specs.declared.Part.{Part}
use Rattle.std.specs.Prelude.{Option}
use Rattle.meaning.specs.declared.CalendarDay.{CalendarDay}
use Rattle.meaning.specs.declared.PackedBits.{PackedBits}

-- any question with a buffer
pub agree_told : {A : Type 0} (o o' : Outcome A) → o ≡ o' → (r r' : A) (d d' : List ℕ) → Meets o r d → Meets o' r' d' → Same r r' d d'
agree_told o o' e r r' d d' m m' = meets_unique o' r r' d d' (rw e at m) m'

-- any question without one
pub agree_answered : {A : Type 0} (a a' : A) → a ≡ a' → (r r' : A) → r ≡ a → r' ≡ a' → r ≡ r'
agree_answered a a' e r r' m m' = m ∙ e ∙ sym m'

-- one literal in two sources
module _ (l : Literal) (S S' : List ℕ) (a : Agree l S S') where
  pub string_agrees : (σ : Settings) (out : List ℕ) (r r' : Result Text Refusal) (d d' : List ℕ)
      → Meets (string_question l S σ out) r d → Meets (string_question l S' σ out) r' d' → Same r r' d d'
  string_agrees σ out = agree_told _ _ (Sources'.string_question_same l S S' a σ out)

  pub plain_agrees : (out : List ℕ) (r r' : Result Text Refusal) (d d' : List ℕ)
      → Meets (plain_question l S out) r d → Meets (plain_question l S' out) r' d' → Same r r' d d'
  plain_agrees out = string_agrees off out

  pub decimal_agrees : (out : List ℕ) (r r' : Result Text Refusal) (d d' : List ℕ)
      → Meets (decimal_question l S out) r d → Meets (decimal_question l S' out) r' d' → Same r r' d d'
  decimal_agrees out = agree_told _ _ (Sources'.decimal_question_same l S S' a out)

  pub bits_agrees : (out : List ℕ) (r r' : Result Text Refusal) (d d' : List ℕ)
      → Meets (bits_question l S out) r d → Meets (bits_question l S' out) r' d' → Same r r' d d'
  bits_agrees out = agree_told _ _ (Sources'.bits_question_same l S S' a out)

  pub temporal_agrees : (out : List ℕ) (r r' : Result Text Refusal) (d d' : List ℕ)
      → Meets (temporal_question l S out) r d → Meets (temporal_question l S' out) r' d' → Same r r' d d'
  temporal_agrees out = agree_told _ _ (Sources'.temporal_question_same l S S' a out)

  pub source_agrees : (r r' : Result Part Refusal) → r ≡ source_question l S → r' ≡ source_question l S' → r ≡ r'
  source_agrees = agree_answered _ _ (Sources'.source_question_same l S S' a)

  pub money_agrees : (r r' : Result Part Refusal) → r ≡ money_question l S → r' ≡ money_question l S' → r ≡ r'
  money_agrees = agree_answered _ _ (Sources'.money_question_same l S S' a)

  pub charset_agrees : (r r' : Result (Option Part) Refusal) → r ≡ charset_question l S → r' ≡ charset_question l S' → r ≡ r'
  charset_agrees = agree_answered _ _ (Sources'.charset_question_same l S S' a)

  pub i64_agrees : (r r' : Result ℤ Refusal) → r ≡ i64_question l S → r' ≡ i64_question l S' → r ≡ r'
  i64_agrees = agree_answered _ _ (Sources'.i64_question_same l S S' a)

  pub date_agrees : (r r' : Result CalendarDay Refusal) → r ≡ date_question l S → r' ≡ date_question l S' → r ≡ r'
  date_agrees = agree_answered _ _ (Sources'.date_question_same l S S' a)

  pub packed_agrees : (out : List ℕ) (r r' : Result PackedBits Refusal) (d d' : List ℕ)
      → Meets (packed_question l S out) r d → Meets (packed_question l S' out) r' d' → Same r r' d d'
  packed_agrees out = agree_told _ _ (Sources'.packed_question_same l S S' a out)
