-- From a question on a literal to the text in its span: what the tests 1 to 4 leave. Assumes nothing.
use mathlib.Core.Path.{◌≡◌}
use mathlib.Core.Bool.{true, false}
use mathlib.Core.List.{List}
use Prim.Native.Nat.{ℕ}
use Rattle.meaning.specs.declared.Settings.{Settings}
use Rattle.meaning.specs.declared.LiteralExpected.{LiteralExpected}
use Rattle.meaning.specs.declared.Literal.{Literal}
use Rattle.meaning.specs.declared.Refusal.TheVariants.{NotUtf8, InvalidString}
use Rattle.meaning.specs.Bytes.{part}
use Rattle.meaning.specs.Chars.{utf8}
use Rattle.meaning.specs.Reading.{read}
use Rattle.meaning.specs.Questions.{passes, bad_span, source_text, tested, is_string, told_as, string_question}
use Rattle.std.specs.Prelude.{Err}

-- the literal stands in the source, and its span holds the text t
pub record Spans (l : Literal) (S t : List ℕ) : Type 0 where
  pub real : l.synthetic ≡ false
  pub fits : bad_span l.span S ≡ false
  pub text : part l.span.start l.span.end S ≡ t

-- a text that is UTF-8 passes the tests 2 to 4
pub source_text_passes : (l : Literal) (S t : List ℕ) → Spans l S t → utf8 t ≡ true → source_text l S ≡ passes t
unfolding source_text
source_text_passes l S t h u = rw (h.real, h.fits, h.text, u)

pub tested_passes : (e : LiteralExpected) (l : Literal) (S t : List ℕ) → Spans l S t → utf8 t ≡ true → tested true e l S ≡ passes t
unfolding tested
tested_passes e l S t h u = source_text_passes l S t h u

-- the string question on such a text is the reading of the text
pub string_question_reads : (l : Literal) (S t : List ℕ) (σ : Settings) (out : List ℕ) → is_string l.kind ≡ true → Spans l S t → utf8 t ≡ true
    → string_question l S σ out ≡ told_as (InvalidString l.span) l.span.start out (read σ t)
unfolding string_question
string_question_reads l S t σ out k h u = rw (k, tested_passes _ l S t h u)

-- on one that is not UTF-8 it gives 4
pub string_question_not_utf8 : (l : Literal) (S t : List ℕ) (σ : Settings) (out : List ℕ) → is_string l.kind ≡ true → Spans l S t → utf8 t ≡ false
    → (string_question l S σ out).answer ≡ Err (NotUtf8 l.span)
unfolding string_question tested source_text
string_question_not_utf8 l S t σ out k h u = rw (k, h.real, h.fits, h.text, u)
