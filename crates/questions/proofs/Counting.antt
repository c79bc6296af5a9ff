-- The integer question: what the code told is the definition's answer. Assumes nothing.
use Rattle.std.specs.Prelude.{Result, Ok, Err}
use mathlib.Core.Path.{◌≡◌, refl, sym, ap, ◌∙◌}
use mathlib.Core.List.{List}
use Prim.Native.Nat.{ℕ}
use Rattle.std.specs.Prelude.{Bool}
use lib.IntN.{ℤ}
use mir.Syntax.{w64}
use mir.Val.{SFits, to_z, of_z}
use mir.Facts.{to_z-of_z}
use Rattle.meaning.specs.declared.Literal.{Literal}
use Rattle.meaning.specs.declared.LiteralExpected.TheVariants as Expected
use Rattle.meaning.specs.declared.Refusal.{Refusal}
use Rattle.meaning.specs.declared.Refusal.TheVariants.{InvalidInteger}
use Rattle.meaning.specs.Bytes.{part}
use Rattle.meaning.specs.Numbers.{Parsed, none, int, i64_of}
use Rattle.meaning.specs.Questions.{is_integer, tested, integer_as, i64_question}
use Rattle.numbers.specs.Values.{int64_of}
use Rattle.std.specs.Prelude.{Result, Ok, Err}
use Rattle.meaning.specs.declared.Part.{Part}
use Rattle.admitting.specs.Tests.{Tests}
use Rattle.questions.proofs.Spanned.{span_barred, span_passes}
use Rattle.std.specs.Prelude.{Option, Some, None}

abbrev integer_of : Refusal → Option ℤ → Result ℤ Refusal
integer_of bad (Some z) = Ok z
integer_of bad None = Err bad

integer_as_lem : (bad : Refusal) (p : Parsed) → integer_of bad (int64_of p) ≡ integer_as bad p
integer_as_lem bad none = refl
integer_as_lem bad (int z) = refl

module _ {l : Literal} {S : List ℕ} {r : Result Part Refusal} {right : Bool} (c : right ≡ is_integer l.kind)
    (v : Tests l S r (tested right Expected.Integer l S)) where
  pub integer_barred : (w : Refusal) → r ≡ Err w → Err w ≡ i64_question l S
  unfolding i64_question
  integer_barred w q = rw (← c, span_barred v w q)

  module _ (π : Part) (q : r ≡ Ok π) (d : Option ℤ) (k : d ≡ int64_of (i64_of (part π.start π.end S))) where
    its : i64_question l S ≡ integer_of (InvalidInteger l.span) d
    unfolding i64_question
    its = rw (← c, span_passes v π q) (sym (integer_as_lem (InvalidInteger l.span) (i64_of (part π.start π.end S))) ∙ ap (integer_of (InvalidInteger l.span)) (sym k))

    pub integer_value_lem : (z : ℤ) → SFits w64 z → d ≡ Some z → Ok (to_z w64 (of_z w64 z)) ≡ i64_question l S
    integer_value_lem z f o = ap Ok (to_z-of_z {w = w64} f) ∙ sym (its ∙ ap (integer_of (InvalidInteger l.span)) o)

    pub integer_none : d ≡ None → Err (InvalidInteger l.span) ≡ i64_question l S
    integer_none o = sym (its ∙ ap (integer_of (InvalidInteger l.span)) o)
