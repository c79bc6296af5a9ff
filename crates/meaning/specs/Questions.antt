-- [01 Numbers an answer can carry] Every question as one function from literal, source, setting and buffer to answer and final buffer.
-- "Reading tests 1, 2, 3, 4, then 5 to 8, then 9." Assumes nothing.
use Rattle.std.specs.Prelude.{Bool, true, false, ◌&&◌, ◌||◌, List, ℕ, zero, suc, ◌+◌, eqb, leb, ltb, length, Result, Ok, Err}
use Rattle.meaning.specs.declared.Settings.{Settings}
use Rattle.meaning.specs.declared.LiteralKind.{LiteralKind}
use Rattle.meaning.specs.declared.LiteralExpected.{LiteralExpected}
use Rattle.meaning.specs.declared.LiteralExpected.TheVariants as Expected
use Rattle.meaning.specs.declared.Span.{Span}
use Rattle.meaning.specs.declared.Literal.{Literal}
use Rattle.meaning.specs.declared.Refusal.{Refusal}
use Rattle.meaning.specs.declared.Refusal.TheVariants.{WrongKind, MissingSource, InvalidSourceRange, NotUtf8, InvalidInteger, InvalidString}
use Rattle.meaning.specs.declared.Refusal.TheVariants.{InvalidBitString, InvalidMoney, NoRoom}
use Rattle.meaning.specs.declared.Text.{Text}
use Rattle.meaning.specs.declared.Text.TheVariants as Text'
use Rattle.meaning.specs.Bytes.{◌!◌, part, within}
use Rattle.std.specs.Prelude.{if◌then◌else◌}
use Rattle.meaning.specs.Chars.{utf8}
use Rattle.meaning.specs.Cutting.{off}
use Rattle.meaning.specs.Reading.{Answer, borrowed, written, refused, read}
use Rattle.meaning.specs.Numbers.{Parsed, none, int, i64_of, decimal_of}
use Rattle.meaning.specs.Kinds.{bits, money, temporal, charset_end}
use Rattle.meaning.specs.Helpers.{ident}
use Rattle.meaning.specs.Answers.{Outcome, kind_code}
use Rattle.meaning.specs.Reads.{outcome_by}
use Rattle.std.specs.Prelude.{ℤ}
use Rattle.meaning.specs.declared.Part.{Part}
use Rattle.meaning.specs.Answers.{part_at}
use Rattle.std.specs.Prelude.{Option, Some, None}
use Rattle.meaning.specs.declared.IdentifierError.{IdentifierError}
use Rattle.meaning.specs.declared.IdentifierError.TheVariants as IdentifierError'

-- SPANS. "A place cuts a character when it is below the source length and its byte is 80 to BF hex"
unfoldable pub cuts_character : ℕ → List ℕ → Bool
cuts_character i source = ltb i (length source) && within 0x80 0xBF (source ! i)

-- "start > end, end > source length, or either cuts a character"
unfoldable pub bad_span : Span → List ℕ → Bool
bad_span s source = ltb s.end s.start || ltb (length source) s.end || cuts_character s.start source || cuts_character s.end source

-- THE TESTS 1 to 4: the text in the span, or why there is none
pub data Tested : Type 0 where
  passes : List ℕ → Tested
  barred : Refusal → Tested

unfoldable pub source_text : Literal → List ℕ → Tested
source_text l source =
    if l.synthetic then barred (MissingSource l.span)
    else if bad_span l.span source then barred (InvalidSourceRange l.span)
    else if utf8 (part l.span.start l.span.end source) then passes (part l.span.start l.span.end source)
    else barred (NotUtf8 l.span)

unfoldable pub tested : Bool → LiteralExpected → Literal → List ℕ → Tested
tested right e l source = if right then source_text l source else barred (WrongKind e l.kind)

-- KINDS. Which kinds fit which question, by their codes
abbrev pub is_integer : LiteralKind → Bool
is_integer k = eqb (kind_code k) 1

abbrev pub is_number : LiteralKind → Bool
is_number k = leb (kind_code k) 3

abbrev pub is_string : LiteralKind → Bool
is_string k = eqb (kind_code k) 4

abbrev pub is_null : LiteralKind → Bool
is_null k = eqb (kind_code k) 7

abbrev pub is_temporal : LiteralKind → Bool
is_temporal k = leb 8 (kind_code k) && leb (kind_code k) 11

abbrev pub is_money : LiteralKind → Bool
is_money k = eqb (kind_code k) 14

-- a bit string's base; 0 for any other kind
abbrev pub bit_base : LiteralKind → ℕ
bit_base k = if eqb (kind_code k) 12 then 2 else if eqb (kind_code k) 13 then 16 else 0

-- TEXTS. A reading of the text in a span that begins at s, for a buffer: `bad` is why one that is refused at a place is refused. [02 T-04] "Refusal 6 from
-- reading a string shall carry a place, counted from the text's start": so from the span's start, and not from the source's
abbrev pub told_as : (ℕ → Refusal) → ℕ → List ℕ → Answer → Outcome (Result Text Refusal)
told_as bad s out a = outcome_by (λ f u. Ok (Text'.Borrowed (s + f) (s + u))) (λ n. Ok (Text'.Written n)) (λ n. Err (NoRoom n)) (λ p. Err (bad p)) out a

abbrev pub told : (List ℕ → Answer) → (Span → ℕ → Refusal) → Literal → List ℕ → Tested → Outcome (Result Text Refusal)
told f bad l out (passes t) = told_as (bad l.span) l.span.start out (f t)
told f bad l out (barred r) = record { answer = Err r; buffer = out }

unfoldable pub string_question : Literal → List ℕ → Settings → List ℕ → Outcome (Result Text Refusal)
string_question l source σ out = told (read σ) InvalidString l out (tested (is_string l.kind) Expected.String l source)

-- `as_str`: with the setting off
abbrev pub plain_question : Literal → List ℕ → List ℕ → Outcome (Result Text Refusal)
plain_question l source out = string_question l source off out

-- 5 and 7 carry no place
unfoldable pub decimal_question : Literal → List ℕ → List ℕ → Outcome (Result Text Refusal)
decimal_question l source out = told decimal_of (λ s p. InvalidInteger s) l out (tested (is_number l.kind) Expected.DecimalText l source)

-- bits and temporal texts are read with the setting off
unfoldable pub bits_question : Literal → List ℕ → List ℕ → Outcome (Result Text Refusal)
bits_question l source out =
    told (bits off (bit_base l.kind)) (λ s p. InvalidBitString s) l out (tested (ltb 0 (bit_base l.kind)) Expected.BitString l source)

unfoldable pub temporal_question : Literal → List ℕ → List ℕ → Outcome (Result Text Refusal)
temporal_question l source out = told (temporal off) InvalidString l out (tested (is_temporal l.kind) Expected.Temporal l source)

-- PARTS of the source: neither question writes. `source_text` tests no kind, and is refused by the tests alone
abbrev pub range_as : Refusal → ℕ → Answer → Result Part Refusal
range_as bad s (borrowed f u) = Ok (part_at (s + f) (s + u))
range_as bad s (written v) = Err bad
range_as bad s (refused p) = Err bad

abbrev pub ranged : (List ℕ → Answer) → (Span → Refusal) → Literal → Tested → Result Part Refusal
ranged f bad l (passes t) = range_as (bad l.span) l.span.start (f t)
ranged f bad l (barred r) = Err r

unfoldable pub source_question : Literal → List ℕ → Result Part Refusal
source_question l source = ranged (λ t. borrowed 0 (length t)) NotUtf8 l (source_text l source)

unfoldable pub money_question : Literal → List ℕ → Result Part Refusal
money_question l source = ranged money InvalidMoney l (tested (is_money l.kind) Expected.Money l source)

-- the name between the first _ and the place n
abbrev pub named_as : ℕ → ℕ → Result (Option Part) Refusal
named_as s zero = Ok None
named_as s (suc n) = Ok (Some (part_at (s + 1) (s + suc n)))

abbrev pub charset_by : Literal → Tested → Result (Option Part) Refusal
charset_by l (passes t) = named_as l.span.start (charset_end t)
charset_by l (barred r) = Err r

unfoldable pub charset_question : Literal → List ℕ → Result (Option Part) Refusal
charset_question l source = charset_by l (tested (is_string l.kind) Expected.String l source)

-- NUMBERS
abbrev pub integer_as : Refusal → Parsed → Result ℤ Refusal
integer_as bad none = Err bad
integer_as bad (int z) = Ok z

abbrev pub integer_by : Literal → Tested → Result ℤ Refusal
integer_by l (passes t) = integer_as (InvalidInteger l.span) (i64_of t)
integer_by l (barred r) = Err r

unfoldable pub i64_question : Literal → List ℕ → Result ℤ Refusal
i64_question l source = integer_by l (tested (is_integer l.kind) Expected.Integer l source)

-- "`as_bool` and `as_null` read no source and give only 0 or 1"
abbrev pub bool_question : LiteralKind → Result Bool Refusal
bool_question k =
    if eqb (kind_code k) 5 then Ok true
    else if eqb (kind_code k) 6 then Ok false
    else Err (WrongKind Expected.Boolean k)

abbrev pub null_question : LiteralKind → Result (Unit {0}) Refusal
null_question k = if is_null k then Ok tt else Err (WrongKind Expected.Null k)

-- IDENTIFIERS, on bare text: 4, then 6, then 9
abbrev pub identifier_as : List ℕ → Answer → Outcome (Result Text IdentifierError)
identifier_as out a = outcome_by (λ f u. Ok (Text'.Borrowed f u)) (λ n. Ok (Text'.Written n)) (λ n. Err (IdentifierError'.NoRoom n)) (λ p. Err IdentifierError'.InvalidString) out a

unfoldable pub identifier_question : List ℕ → List ℕ → Outcome (Result Text IdentifierError)
identifier_question t out = if utf8 t then identifier_as out (ident t) else record { answer = Err IdentifierError'.NotUtf8; buffer = out }
