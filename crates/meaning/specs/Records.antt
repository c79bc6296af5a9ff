-- [01 Record program litrec] A record's line, and all that the program prints. Assumes nothing.
use Rattle.std.specs.Prelude.{Bool, true, false, ◌&&◌, List, [], ◌∷◌, ◌++◌, ℕ, ◌+◌, ◌/◌, ◌%◌, eqb, leb, ltb, length, drop, replicate, Result, Ok, Err}
use Prim.Native.Char.{code}
use Rattle.meaning.specs.declared.Settings.{Settings}
use Rattle.meaning.specs.declared.Literal.{Literal}
use Rattle.meaning.specs.declared.Text.{Text}
use Rattle.meaning.specs.declared.Text.TheVariants as Text'
use Rattle.meaning.specs.Bytes.{◌!◌, part, ascii, within, all_zero}
use Rattle.std.specs.Prelude.{if◌then◌else◌}
use Rattle.meaning.specs.Walk.{Step, give, walk, value}
use Rattle.meaning.specs.Numbers.{digits_of, printed}
use Rattle.meaning.specs.Answers.{Outcome, refusal_number, shown, range_shown, charset_shown}
use Rattle.meaning.specs.Questions.{string_question, i64_question, decimal_question, bits_question, money_question, temporal_question, charset_question}
use Rattle.meaning.specs.Codes.{kind_of, settings_of}
use Rattle.meaning.specs.declared.Refusal.{Refusal}
use Rattle.std.specs.Prelude.{ℤ}
use Rattle.meaning.specs.declared.Part.{Part}
use Rattle.std.specs.Prelude.{Option, Some, None}

-- THE LINE: "number; b, w, i, n or -; length ..; upper-case hex of the text, - if empty or none"
abbrev pub hex_digit : ℕ → ℕ
hex_digit d = if ltb d 10 then 48 + d else 55 + d

abbrev pub hex_of : List ℕ → List ℕ
hex_of [] = []
hex_of (b ∷ t) = hex_digit (b / 16) ∷ hex_digit (b % 16) ∷ hex_of t

abbrev pub hex_text : List ℕ → List ℕ
hex_text [] = ascii "-"
hex_text (b ∷ t) = hex_of (b ∷ t)

unfoldable pub line : ℕ → ℕ → List ℕ → List ℕ → List ℕ
line n how count t = digits_of n ++ (32 ∷ how ∷ 32 ∷ count ++ (32 ∷ hex_text t ++ (10 ∷ [])))

abbrev pub refused_line : ℕ → List ℕ
refused_line n = line n (code "-") (ascii "0") []

abbrev pub shown_line : ℕ → List ℕ → List ℕ
shown_line how t = line 0 how (digits_of (length t)) t

abbrev pub text_line_as : List ℕ → List ℕ → Result Text Refusal → List ℕ
text_line_as source out (Ok (Text'.Borrowed f u)) = shown_line (code "b") (shown source out (Ok (Text'.Borrowed f u)))
text_line_as source out (Ok (Text'.Written n)) = shown_line (code "w") (shown source out (Ok (Text'.Written n)))
text_line_as source out (Err r) = refused_line (refusal_number r)

abbrev pub text_line : List ℕ → Outcome (Result Text Refusal) → List ℕ
text_line source o = text_line_as source o.buffer o.answer

abbrev pub range_line : List ℕ → Result Part Refusal → List ℕ
range_line source (Ok π) = shown_line (code "b") (range_shown source (Ok π))
range_line source (Err r) = refused_line (refusal_number r)

abbrev pub charset_line : List ℕ → Result (Option Part) Refusal → List ℕ
charset_line source (Ok (Some π)) = shown_line (code "b") (charset_shown source (Ok (Some π)))
charset_line source (Ok None) = line 0 (code "n") (ascii "0") []
charset_line source (Err r) = refused_line (refusal_number r)

abbrev pub integer_line : Result ℤ Refusal → List ℕ
integer_line (Ok z) = line 0 (code "i") (printed z) []
integer_line (Err r) = refused_line (refusal_number r)

-- THE QUESTION, by its byte, on a text that is the source; "the buffer has 64 bytes"
abbrev pub whole_literal : ℕ → List ℕ → Literal
whole_literal kind t = record { kind = kind_of kind; synthetic = false; span = record { start = 0; end = length t } }

abbrev pub room : List ℕ
room = replicate 64 0

abbrev pub asked : ℕ → Literal → Settings → List ℕ → List ℕ
asked q l σ t =
    if eqb q 1 then text_line t (string_question l t σ room)
    else if eqb q 2 then integer_line (i64_question l t)
    else if eqb q 3 then text_line t (decimal_question l t room)
    else if eqb q 4 then text_line t (bits_question l t room)
    else if eqb q 5 then range_line t (money_question l t)
    else if eqb q 6 then text_line t (temporal_question l t room)
    else charset_line t (charset_question l t)

-- THE RECORD: question, kind, setting, text length, then 60 bytes, "zero past the text"
unfoldable pub good_record : List ℕ → Bool
good_record r =
    eqb (length r) 64 && within 1 7 (r ! 0) && within 1 14 (r ! 1) && leb (r ! 2) 1 && leb (r ! 3) 60 && all_zero (drop (4 + (r ! 3)) r)

abbrev pub text_in : List ℕ → List ℕ
text_in r = part 4 (4 + (r ! 3)) r

unfoldable pub record_line : List ℕ → List ℕ
record_line r =
    if good_record r then asked (r ! 0) (whole_literal (r ! 1) (text_in r)) (settings_of (r ! 2)) (text_in r) else refused_line 10

-- THE PROGRAM: a line for each 64 bytes, and one for a short last record; nothing for no input
abbrev pub record_step : List ℕ → Step
record_step t = give 63 (record_line (part 0 64 t))

unfoldable pub output : List ℕ → List ℕ
output input = value (walk record_step 0 input)
