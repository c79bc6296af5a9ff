-- The questions whose answer is a text: what the code told of the tests and of the reading is the definition's outcome, and no sum wraps. Assumes nothing.
use Rattle.meaning.specs.Questions.{bit_base, is_number, is_string, is_temporal}
use mathlib.Core.Path.{◌≡◌, refl, sym, ap, subst, ◌∙◌}
use mathlib.Core.Bool.{Bool, true, ◌&&◌}
use mathlib.Core.List.{List}
use Prim.Native.Nat.{ℕ, ◌+◌, ◌-◌, ◌≤◌, ◌<◌, ◌^◌}
use native.Mathlib.Omega.{arith}
use lib.Dec.{eqb, leb, ltb}
use lib.ListN.{length, drop, length-drop, length-take}
use mir.Syntax.{w64}
use mir.Val.{Fits}
use Rattle.meaning.specs.declared.Settings.{Settings}
use Rattle.meaning.specs.declared.Literal.{Literal}
use Rattle.meaning.specs.declared.LiteralExpected.TheVariants as Expected
use Rattle.meaning.specs.declared.ReadText.{ReadText}
use Rattle.meaning.specs.declared.ReadRefusal.{ReadRefusal}
use Rattle.meaning.specs.declared.ReadText.TheVariants as ReadText'
use Rattle.meaning.specs.declared.Refusal.{Refusal}
use Rattle.meaning.specs.declared.Refusal.TheVariants.{NotUtf8, InvalidInteger, InvalidString, InvalidBitString}
use Rattle.meaning.specs.declared.Text.{Text}
use Rattle.meaning.specs.declared.Text.TheVariants.{Borrowed}
use Rattle.meaning.specs.Bytes.{part}
use Rattle.meaning.specs.Chars.{utf8}
use Rattle.meaning.specs.Cutting.{off}
use Rattle.meaning.specs.Reading.{read}
use Rattle.meaning.specs.Reads.{Reads}
use Rattle.meaning.specs.Numbers.{decimal_of}
use Rattle.meaning.specs.Kinds.{bits, temporal}
use Rattle.meaning.specs.Answers.{Meets, kind_code}
use Rattle.meaning.specs.Questions as Definition
use Rattle.meaning.specs.Questions.{tested, string_question, decimal_question, bits_question, temporal_question}
use Rattle.laws.proofs.questions.Ranges.{read_inside, temporal_inside}
use Rattle.laws.proofs.packing.Segment.{bits_inside}
use Rattle.std.specs.Prelude.{Result, Ok, Err}
use Rattle.meaning.specs.declared.Part.{Part}
use Rattle.admitting.specs.Tests.{Tests, Locates}
use Rattle.admitting.proofs.Passing.{passed_too, undecoded_too, range, barred_too}
use Rattle.strings.specs.declared.reading.NotUtf8.{NotUtf8 as Undecoded}
use Rattle.strings.specs.Plain.{is_plain_ascii}
use Rattle.strings.specs.Driving.{ChecksBy, Checks}
use Rattle.strings.proofs.AsciiRows.{ascii_utf8}
use Rattle.strings.proofs.Fits.{ascii_long, ascii_reads}
use Rattle.questions.specs.Told.{told_by, InText}
use Rattle.questions.proofs.Moved.{fits_text, told_meets, told_barred}
use Rattle.questions.proofs.Inside.{decimal_inside}

-- NO SUM WRAPS
module _ {l : Literal} {S : List ℕ} {r : Result Part Refusal} {x : Definition.Tested} (v : Tests l S r x) (π : Part) (q : r ≡ Ok π) (h : length S < 2 ^ 64)
    {out after : List ℕ} {d : Result ReadText ReadRefusal} where
  pub string_fits : (σ : Settings) → Reads (read σ (part π.start π.end S)) out d after → InText π.start d
  string_fits σ k = fits_text (read σ) v π q (read_inside σ) h (length out) d k.answer

  pub decimal_fits : Reads (decimal_of (part π.start π.end S)) out d after → InText π.start d
  decimal_fits k = fits_text decimal_of v π q decimal_inside h (length out) d k.answer

  pub bits_fits : (σ : Settings) (β : ℕ) → Reads (bits σ β (part π.start π.end S)) out d after → InText π.start d
  bits_fits σ β k = fits_text (bits σ β) v π q (bits_inside σ β) h (length out) d k.answer

  pub temporal_fits : (σ : Settings) → Reads (temporal σ (part π.start π.end S)) out d after → InText π.start d
  temporal_fits σ k = fits_text (temporal σ) v π q (temporal_inside σ) h (length out) d k.answer

-- WHAT IS TOLD, by the code of the kind
module _ {l : Literal} {S : List ℕ} {r : Result Part Refusal} where
  module _ {right : Bool} (c : right ≡ is_string l.kind) (σ : Settings) (v : Tests l S r (tested right Expected.String l S)) where
    pub string_told : (π : Part) → r ≡ Ok π → (out after : List ℕ) (d : Result ReadText ReadRefusal) → Reads (read σ (part π.start π.end S)) out d after → (a : Result Text Refusal)
        → a ≡ told_by (InvalidString l.span) π.start d → Meets (string_question l S σ out) a after
    unfolding string_question
    string_told π q out after d k a o = rw (← c) (told_meets (read σ) v InvalidString π q out after d k a o)

    pub string_barred : (out : List ℕ) (w : Refusal) → r ≡ Err w → Meets (string_question l S σ out) (Err w) out
    unfolding string_question
    string_barred out w q = rw (← c) (told_barred (read σ) v InvalidString out w q)

  module _ {right : Bool} (c : right ≡ is_number l.kind) (v : Tests l S r (tested right Expected.DecimalText l S)) where
    pub decimal_told : (π : Part) → r ≡ Ok π → (out after : List ℕ) (d : Result ReadText ReadRefusal) → Reads (decimal_of (part π.start π.end S)) out d after → (a : Result Text Refusal)
        → a ≡ told_by (λ p. InvalidInteger l.span) π.start d → Meets (decimal_question l S out) a after
    unfolding decimal_question
    decimal_told π q out after d k a o = rw (← c) (told_meets decimal_of v (λ s p. InvalidInteger s) π q out after d k a o)

    pub decimal_barred : (out : List ℕ) (w : Refusal) → r ≡ Err w → Meets (decimal_question l S out) (Err w) out
    unfolding decimal_question
    decimal_barred out w q = rw (← c) (told_barred decimal_of v (λ s p. InvalidInteger s) out w q)

  module _ (β : ℕ) (b : β ≡ bit_base l.kind) (v : Tests l S r (tested (ltb 0 β) Expected.BitString l S)) where
    pub bits_told : (π : Part) → r ≡ Ok π → (out after : List ℕ) (d : Result ReadText ReadRefusal) → Reads (bits off β (part π.start π.end S)) out d after → (a : Result Text Refusal)
        → a ≡ told_by (λ p. InvalidBitString l.span) π.start d → Meets (bits_question l S out) a after
    unfolding bits_question
    bits_told π q out after d k a o = rw (← b) (told_meets (bits off β) v (λ s p. InvalidBitString s) π q out after d k a o)

    pub bits_barred : (out : List ℕ) (w : Refusal) → r ≡ Err w → Meets (bits_question l S out) (Err w) out
    unfolding bits_question
    bits_barred out w q = rw (← b) (told_barred (bits off β) v (λ s p. InvalidBitString s) out w q)

  module _ {right : Bool} (c : right ≡ is_temporal l.kind) (v : Tests l S r (tested right Expected.Temporal l S)) where
    pub temporal_told : (π : Part) → r ≡ Ok π → (out after : List ℕ) (d : Result ReadText ReadRefusal) → Reads (temporal off (part π.start π.end S)) out d after → (a : Result Text Refusal)
        → a ≡ told_by (InvalidString l.span) π.start d → Meets (temporal_question l S out) a after
    unfolding temporal_question
    temporal_told π q out after d k a o = rw (← c) (told_meets (temporal off) v InvalidString π q out after d k a o)

    pub temporal_barred : (out : List ℕ) (w : Refusal) → r ≡ Err w → Meets (temporal_question l S out) (Err w) out
    unfolding temporal_question
    temporal_barred out w q = rw (← c) (told_barred (temporal off) v InvalidString out w q)

-- THE STRING'S TEXT is tested to be UTF-8 by who reads it
module _ {l : Literal} {S : List ℕ} {r : Result Part Refusal} {right : Bool} (c : right ≡ is_string l.kind) (σ : Settings) (g : Locates l S r (tested right Expected.String l S)) where
  module _ (π : Part) (q : r ≡ Ok π) (out after : List ℕ) where
    abbrev u : Bool
    u = utf8 (part π.start π.end S)

    pub checked_fits : length S < 2 ^ 64 → (k : Result (Result ReadText ReadRefusal) Undecoded) → Checks u (read σ (part π.start π.end S)) out k after → (d : Result ReadText ReadRefusal) → k ≡ Ok d → InText π.start d
    checked_fits h k x d ec =
        let y = subst (λ (z : Result (Result ReadText ReadRefusal) Undecoded). ChecksBy u (read σ (part π.start π.end S)) out z after) ec x.by in
        string_fits (passed_too l S r g π q y.0) π refl h σ y.1

    pub checked_told : (k : Result (Result ReadText ReadRefusal) Undecoded) → Checks u (read σ (part π.start π.end S)) out k after → (d : Result ReadText ReadRefusal) → k ≡ Ok d → (a : Result Text Refusal)
        → a ≡ told_by (InvalidString l.span) π.start d → Meets (string_question l S σ out) a after
    checked_told k x d ec a o =
        let y = subst (λ (z : Result (Result ReadText ReadRefusal) Undecoded). ChecksBy u (read σ (part π.start π.end S)) out z after) ec x.by in
        string_told c σ (passed_too l S r g π q y.0) π refl out after d y.1 a o

    pub checked_not : (k : Result (Result ReadText ReadRefusal) Undecoded) → Checks u (read σ (part π.start π.end S)) out k after → (n : Undecoded) → k ≡ Err n
        → Meets (string_question l S σ out) (Err (NotUtf8 l.span)) after
    checked_not k x n ec =
        let y = subst (λ (z : Result (Result ReadText ReadRefusal) Undecoded). ChecksBy u (read σ (part π.start π.end S)) out z after) ec x.by in
        subst (λ (b : List ℕ). Meets (string_question l S σ out) (Err (NotUtf8 l.span)) b) (sym y.1)
        (string_barred c σ (undecoded_too l S r g π q y.0) out (NotUtf8 l.span) refl)

    pub located_ordered : π.start ≤ π.end
    located_ordered = (range l S r g π q).2

    pub located_inside : π.end ≤ length S
    located_inside = (range l S r g π q).3

    -- A PLAIN TEXT IN ASCII is its body
    module _ (y : Bool) (p : y ≡ is_plain_ascii σ (part π.start π.end S)) (z : y ≡ true) where
      some : π.start + 1 ≤ π.end
      some = omega (arith, ascii_long σ (part π.start π.end S) y p z, length-take (π.end - π.start) (drop π.start S), length-drop π.start S)

      pub plain_start : length S < 2 ^ 64 → Fits w64 (π.start + 1)
      plain_start h = record { fits = omega (arith, some, located_inside, h) }

      pub plain_end : 1 ≤ π.end
      plain_end = omega (arith, some)

      pub plain_told : Meets (string_question l S σ out) (Ok (Borrowed (π.start + 1) (π.end - 1))) out
      plain_told =
          let n : π.end - 1 ≡ π.start + (length (part π.start π.end S) - 1) =
          omega (arith, some, length-take (π.end - π.start) (drop π.start S), length-drop π.start S, located_inside) in
          string_told c σ (passed_too l S r g π q (ascii_utf8 σ (part π.start π.end S) (sym p ∙ z))) π refl out out (Ok (ReadText'.Borrowed 1 (length (part π.start π.end S) - 1)))
          (ascii_reads σ (part π.start π.end S) y p z out) (Ok (Borrowed (π.start + 1) (π.end - 1))) (ap (λ u. Ok (Borrowed (π.start + 1) u)) n)

  pub located_barred : (out : List ℕ) (w : Refusal) → r ≡ Err w → Meets (string_question l S σ out) (Err w) out
  located_barred out w q = string_barred c σ (barred_too l S r g w q) out w refl
