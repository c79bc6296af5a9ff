-- [01 Numbers an answer can carry] "Two sources in neither of which a span gives 3, agreeing inside it, get the same answers with the same
-- buffer." Assumes nothing.
use mathlib.Core.Path.{◌≡◌, refl, ap}
use mathlib.Core.Bool.{Bool, true, false}
use mathlib.Core.List.{List}
use lib.ListN.{length}
use Prim.Native.Nat.{ℕ}
use Rattle.meaning.specs.declared.Settings.{Settings}
use Rattle.meaning.specs.declared.LiteralExpected.{LiteralExpected}
use Rattle.meaning.specs.declared.Literal.{Literal}
use Rattle.meaning.specs.declared.Refusal.TheVariants.{NotUtf8, InvalidString, InvalidInteger, InvalidBitString, InvalidMoney}
use Rattle.meaning.specs.Bytes.{part}
use Rattle.meaning.specs.Cutting.{off}
use Rattle.meaning.specs.Reading.{read, borrowed}
use Rattle.meaning.specs.Numbers.{decimal_of}
use Rattle.meaning.specs.Kinds.{bits, money, temporal}
use Rattle.meaning.specs.Questions.{bad_span, source_text, tested, told, ranged, charset_by, integer_by, bit_base, string_question, decimal_question, bits_question}
use Rattle.meaning.specs.Questions.{temporal_question, source_question, money_question, charset_question, i64_question}
use Rattle.meaning.specs.Dates.{dated_by, date_question}
use Rattle.meaning.specs.Packing.{packed_by, packed_question}

-- neither gives 3, and inside the span they are the same
pub record Agree (l : Literal) (S S' : List ℕ) : Type 0 where
  pub fits : bad_span l.span S ≡ false
  pub fits' : bad_span l.span S' ≡ false
  pub inside : part l.span.start l.span.end S ≡ part l.span.start l.span.end S'

module _ (l : Literal) (S S' : List ℕ) (a : Agree l S S') where
  pub source_text_same : source_text l S ≡ source_text l S'
  unfolding source_text
  source_text_same = rw (a.fits, a.fits', a.inside)

  pub tested_same : (right : Bool) (e : LiteralExpected) → tested right e l S ≡ tested right e l S'
  unfolding tested
  tested_same true e = source_text_same
  tested_same false e = refl

  -- every question
  pub string_question_same : (σ : Settings) (out : List ℕ) → string_question l S σ out ≡ string_question l S' σ out
  unfolding string_question
  string_question_same σ out = ap (told (read σ) InvalidString l out) (tested_same _ _)

  pub decimal_question_same : (out : List ℕ) → decimal_question l S out ≡ decimal_question l S' out
  unfolding decimal_question
  decimal_question_same out = ap (told decimal_of (λ s p. InvalidInteger s) l out) (tested_same _ _)

  pub bits_question_same : (out : List ℕ) → bits_question l S out ≡ bits_question l S' out
  unfolding bits_question
  bits_question_same out = ap (told (bits off (bit_base l.kind)) (λ s p. InvalidBitString s) l out) (tested_same _ _)

  pub temporal_question_same : (out : List ℕ) → temporal_question l S out ≡ temporal_question l S' out
  unfolding temporal_question
  temporal_question_same out = ap (told (temporal off) InvalidString l out) (tested_same _ _)

  pub source_question_same : source_question l S ≡ source_question l S'
  unfolding source_question
  source_question_same = ap (ranged (λ t. borrowed 0 (length t)) NotUtf8 l) source_text_same

  pub money_question_same : money_question l S ≡ money_question l S'
  unfolding money_question
  money_question_same = ap (ranged money InvalidMoney l) (tested_same _ _)

  pub charset_question_same : charset_question l S ≡ charset_question l S'
  unfolding charset_question
  charset_question_same = ap (charset_by l) (tested_same _ _)

  pub i64_question_same : i64_question l S ≡ i64_question l S'
  unfolding i64_question
  i64_question_same = ap (integer_by l) (tested_same _ _)

  pub date_question_same : date_question l S ≡ date_question l S'
  unfolding date_question
  date_question_same = ap (dated_by l.span) (tested_same _ _)

  pub packed_question_same : (out : List ℕ) → packed_question l S out ≡ packed_question l S' out
  unfolding packed_question
  packed_question_same out = ap (packed_by l.span (bit_base l.kind) out) (tested_same _ _)
