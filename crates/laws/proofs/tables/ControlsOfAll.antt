-- [01 What the contracts owe] "Shut out" by the contract of each other question that is lent a buffer: a closed input that it writes text for, and so all of
-- `Controls`. Those that join have an input of two segments; the writer's has two parts, so that one which writes the first part only is shut out too.
-- Assumes nothing.
use mathlib.Core.Path.{◌≡◌, refl, ap}
use mathlib.Core.Bool.{Bool, true, false}
use mathlib.Core.List.{List, [], ◌∷◌, ◌++◌}
use Prim.Native.Nat.{ℕ}
use native.Mathlib.Omega.{arith}
use lib.Dec.{eqb}
use borrow.Author.Tests.{eqb-false}
use Rattle.meaning.specs.declared.Settings.{Settings}
use Rattle.meaning.specs.declared.PartSize.{PartSize}
use Rattle.meaning.specs.declared.PartSize.TheVariants.{AtMost}
use Rattle.meaning.specs.declared.Form.{Form}
use Rattle.meaning.specs.declared.Form.TheVariants.{Escape, Unicode}
use Rattle.meaning.specs.declared.BitStringRadix.TheVariants.{Binary}
use Rattle.meaning.specs.declared.LiteralKind.TheVariants as Kind
use Rattle.meaning.specs.declared.Literal.{Literal}
use Rattle.meaning.specs.declared.Text.{Text}
use Rattle.meaning.specs.declared.WritingError.{WritingError}
use Rattle.meaning.specs.declared.WritingError.TheVariants as WritingError'
use Rattle.meaning.specs.Bytes.{◌!◌, ascii, within, is_mark, digit, all_digits}
use Rattle.meaning.specs.Chars.{lead, utf8, width, more, encode, is_scalar, is_space}
use Rattle.meaning.specs.Steps.{doubled, may_escape, scalar_by, uescaped}
use Rattle.meaning.specs.Cutting.{named, segment, segment_step, cut, continues}
use Rattle.meaning.specs.Spelling.{encloses, is_unicode, unicode_spelling, spelling}
use Rattle.meaning.specs.Reading.{answer, one, read}
use Rattle.meaning.specs.Numbers.{sign_length, base_by, radix_prefix, separated, decimal_of}
use Rattle.meaning.specs.Kinds.{bit_body, bits, token_start, quote_token, temporal_token, temporal}
use Rattle.meaning.specs.Helpers.{ident}
use Rattle.meaning.specs.Answers.{identifier_number, identifier_values, writing_number, writing_values, part_shown, filled}
use Rattle.meaning.specs.Questions.{cuts_character, bad_span, source_text, tested, string_question, plain_question, decimal_question, bits_question, temporal_question}
use Rattle.meaning.specs.Questions.{identifier_question}
use Rattle.meaning.specs.Writer.{spell, written_text, over_limit, unwritable_nul, write_question}
use Rattle.meaning.specs.Forms.{figure, is_doubled, escape_form, unicode_figures, form_text, form_question}
use Rattle.laws.proofs.tables.Controls.{Program, Right, Telling, room, WritesAt, shows_only, ShutOut, shut_out, all_as, all_of_it, set, text_telling, two}
use Rattle.laws.proofs.writing.WriterParts.{Every}
use Rattle.std.specs.Prelude.{Result}
use Rattle.meaning.specs.declared.Refusal.{Refusal}
use Rattle.std.specs.Prelude.{Ok, Err}
use Rattle.meaning.specs.declared.Text.TheVariants as Text'
use Rattle.meaning.specs.declared.IdentifierError.{IdentifierError}
use Rattle.meaning.specs.declared.IdentifierError.TheVariants as IdentifierError'

-- questions on a literal and its source
abbrev pub OnSource : Type 0
OnSource = Program (Literal × List ℕ) (Result Text Refusal)

abbrev pub source_telling : Telling (Literal × List ℕ) (Result Text Refusal)
source_telling = text_telling (λ x. x.1)

-- AS_STR writes ab for 'a' 'b'
abbrev pub on_plain : OnSource
on_plain x out = plain_question x.0 x.1 out

pub plain_writes : WritesAt on_plain source_telling (all_of_it two, two) (ascii "ab")
unfolding string_question tested source_text bad_span cuts_character within utf8 lead read continues segment is_mark segment_step cut is_space one spelling
    encloses answer doubled named filled part_shown
plain_writes = record { begins = omega arith; answered = refl; leaves = refl; shows = refl; short = refl; needs = refl }

pub plain_shut_out : ShutOut on_plain source_telling (all_of_it two, two) (ascii "ab")
plain_shut_out = shut_out plain_writes

-- DECIMAL TEXT: 10 for 1_0
abbrev pub on_decimal : OnSource
on_decimal x out = decimal_question x.0 x.1 out

abbrev pub ten : List ℕ
ten = ascii "1_0"

pub decimal_writes : WritesAt on_decimal source_telling (all_as Kind.Integer ten, ten) (ascii "10")
unfolding decimal_question tested source_text bad_span cuts_character within utf8 lead decimal_of separated radix_prefix base_by sign_length digit filled part_shown
decimal_writes = record { begins = omega arith; answered = refl; leaves = refl; shows = refl; short = refl; needs = refl }

pub decimal_shut_out : ShutOut on_decimal source_telling (all_as Kind.Integer ten, ten) (ascii "10")
decimal_shut_out = shut_out decimal_writes

-- BITS: 01 for B'0' '1'
abbrev pub on_bits : OnSource
on_bits x out = bits_question x.0 x.1 out

abbrev pub two_bits : List ℕ
two_bits = ascii "B'0' '1'"

pub bits_writes : WritesAt on_bits source_telling (all_as (Kind.BitString Binary) two_bits, two_bits) (ascii "01")
unfolding bits_question tested source_text bad_span cuts_character within utf8 lead bits cut segment_step segment is_mark is_space doubled named bit_body all_digits
    digit filled part_shown
bits_writes = record { begins = omega arith; answered = refl; leaves = refl; shows = refl; short = refl; needs = refl }

pub bits_shut_out : ShutOut on_bits source_telling (all_as (Kind.BitString Binary) two_bits, two_bits) (ascii "01")
bits_shut_out = shut_out bits_writes

-- TEMPORAL TEXTS: ab for DATE 'a' 'b'
abbrev pub on_temporal : OnSource
on_temporal x out = temporal_question x.0 x.1 out

abbrev pub two_dates : List ℕ
two_dates = ascii "DATE 'a' 'b'"

pub temporal_writes : WritesAt on_temporal source_telling (all_as Kind.Date two_dates, two_dates) (ascii "ab")
unfolding temporal_question tested source_text bad_span cuts_character within utf8 lead temporal temporal_token quote_token token_start read continues segment is_mark
    segment_step cut is_space one spelling encloses answer doubled named filled part_shown
temporal_writes = record { begins = omega arith; answered = refl; leaves = refl; shows = refl; short = refl; needs = refl }

pub temporal_shut_out : ShutOut on_temporal source_telling (all_as Kind.Date two_dates, two_dates) (ascii "ab")
temporal_shut_out = shut_out temporal_writes

-- IDENTIFIERS: a for U&"\0061". Of an answer the text's part or the buffer's is shown
abbrev pub identifier_view : List ℕ → List ℕ → Result Text IdentifierError → List ℕ
identifier_view t out (Ok (Text'.Borrowed f u)) = part_shown f u t
identifier_view t out (Ok (Text'.Written n)) = part_shown 0 n out
identifier_view t out (Err IdentifierError'.NotUtf8) = []
identifier_view t out (Err IdentifierError'.InvalidString) = []
identifier_view t out (Err (IdentifierError'.NoRoom n)) = []

abbrev pub identifier_telling : Telling (List ℕ) (Result Text IdentifierError)
identifier_telling = record { number = identifier_number; values = identifier_values; view = λ t o. identifier_view t o.buffer o.answer }

abbrev pub unicode_name : List ℕ
unicode_name = ascii "U&\"\\0061\""

pub identifier_writes : WritesAt identifier_question identifier_telling unicode_name (ascii "a")
unfolding identifier_question utf8 lead within ident unicode_spelling is_unicode is_space doubled uescaped scalar_by may_escape is_scalar digit encode more answer
    filled part_shown
identifier_writes = record { begins = omega arith; answered = refl; leaves = refl; shows = refl; short = refl; needs = refl }

pub identifier_shut_out : ShutOut identifier_question identifier_telling unicode_name (ascii "a")
identifier_shut_out = shut_out identifier_writes

-- THE WRITER, for the value 'abcd in parts of four bytes, at either setting. What it wrote is shown
abbrev pub writing_view : List ℕ → Result ℕ WritingError → List ℕ
writing_view out (Ok n) = part_shown 0 n out
writing_view out (Err WritingError'.OverLimit) = []
writing_view out (Err WritingError'.NotUtf8) = []
writing_view out (Err WritingError'.HoldsNul) = []
writing_view out (Err (WritingError'.NoRoom n)) = []

abbrev pub writer_telling : Telling (Settings × PartSize × List ℕ) (Result ℕ WritingError)
writer_telling = record { number = writing_number; values = writing_values; view = λ x o. writing_view o.buffer o.answer }

abbrev pub on_writer : Program (Settings × PartSize × List ℕ) (Result ℕ WritingError)
on_writer x out = write_question x.0 x.1 x.2 out

abbrev pub in_parts : Bool → Settings × PartSize × List ℕ
in_parts b = (set b, AtMost 4, ascii "'abcd")

abbrev pub two_parts : List ℕ
two_parts = ascii "'''abc'\n'd'"

pub writer_writes : (b : Bool) → WritesAt on_writer writer_telling (in_parts b) two_parts
unfolding write_question over_limit utf8 lead within unwritable_nul written_text width spell filled part_shown
writer_writes true = record { begins = omega arith; answered = refl; leaves = refl; shows = refl; short = refl; needs = refl }
writer_writes false = record { begins = omega arith; answered = refl; leaves = refl; shows = refl; short = refl; needs = refl }

pub writer_shut_out : (b : Bool) → ShutOut on_writer writer_telling (in_parts b) two_parts
writer_shut_out b = shut_out (writer_writes b)

-- [02 T-02] "The writer now puts one LF": shut out are document 01's space, CR LF, an LF behind the last part too, one before the first, and no gap, each at
-- either setting
abbrev pub other_gaps : List (List ℕ)
other_gaps =
    ascii "'''abc' 'd'" ∷ ascii "'''abc'\r\n'd'" ∷ ascii "'''abc'\n'd'\n" ∷ ascii "\n'''abc'\n'd'" ∷ ascii "'''abc''d'" ∷ []

pub no_other_gap : (b : Bool) (p : Program (Settings × PartSize × List ℕ) (Result ℕ WritingError)) → Right on_writer p
    → Every (λ u. writer_telling.view (in_parts b) (p (in_parts b) (room two_parts)) ≡ u → ⊥) other_gaps
no_other_gap b p right = (apart 7 refl, (apart 7 refl, (apart 11 refl, (apart 0 refl, (apart 7 refl, tt)))))
  where
    -- they differ from the text that is due at a place
    apart : {u : List ℕ} (i : ℕ) → eqb (u ! i) (two_parts ! i) ≡ false → writer_telling.view (in_parts b) (p (in_parts b) (room two_parts)) ≡ u → ⊥
    apart {u} i f e = eqb-false (u ! i) (two_parts ! i) f (ap (◌! i) (shows_only on_writer writer_telling (in_parts b) two_parts (writer_writes b) p right u e))

-- IN A FORM: E for the value a' and a byte 01, and U& for a character of two bytes and a backslash
abbrev pub form_telling : Telling (Form × List ℕ) (Result ℕ WritingError)
form_telling = record { number = writing_number; values = writing_values; view = λ x o. writing_view o.buffer o.answer }

abbrev pub on_form : Program (Form × List ℕ) (Result ℕ WritingError)
on_form x out = form_question x.0 x.1 out

pub escape_writes : WritesAt on_form form_telling (Escape, ascii "a'" ++ (1 ∷ [])) (ascii "E'a''\\001'")
unfolding form_question over_limit utf8 lead within form_text escape_form is_doubled figure filled part_shown
escape_writes = record { begins = omega arith; answered = refl; leaves = refl; shows = refl; short = refl; needs = refl }

pub escape_shut_out : ShutOut on_form form_telling (Escape, ascii "a'" ++ (1 ∷ [])) (ascii "E'a''\\001'")
escape_shut_out = shut_out escape_writes

pub unicode_writes : WritesAt on_form form_telling (Unicode, ascii "Ã©\\") (ascii "U&'\\00E9\\\\'")
unfolding form_question over_limit utf8 lead within form_text is_doubled unicode_figures figure filled part_shown
unicode_writes = record { begins = omega arith; answered = refl; leaves = refl; shows = refl; short = refl; needs = refl }

pub unicode_shut_out : ShutOut on_form form_telling (Unicode, ascii "Ã©\\") (ascii "U&'\\00E9\\\\'")
unicode_shut_out = shut_out unicode_writes
