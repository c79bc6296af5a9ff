-- What the definitions say and no question shows: which texts cut completely; where a temporal text breaks with the setting on; the numbers and values of
-- answers that no row reaches; the view of a range that does not fit; where a view stands; where each range of white space ends; the bytes that an
-- argument of UESCAPE gives. Assumes nothing.
use Rattle.std.specs.Prelude.{Ok, Err}
use mathlib.Core.Bool.{Bool, true, false, ◌&&◌}
use mathlib.Core.List.{List, [], ◌∷◌, map}
use Prim.Native.Nat.{ℕ}
use Prim.Native.String.{String}
use lib.Dec.{T, eqb}
use lib.IntN.{negsuc}
use denote.Ref.{Bor}
use Rattle.meaning.specs.declared.Settings.{Settings}
use Rattle.meaning.specs.declared.TimeZone.TheVariants as Zone
use Rattle.meaning.specs.declared.IntervalFields.{IntervalFields}
use Rattle.meaning.specs.declared.IntervalFields.TheVariants as Field
use Rattle.meaning.specs.declared.BitStringRadix.TheVariants.{Binary, Hex}
use Rattle.meaning.specs.declared.LiteralKind.{LiteralKind}
use Rattle.meaning.specs.declared.LiteralKind.TheVariants as Kind
use Rattle.meaning.specs.declared.LiteralExpected.TheVariants as Expected
use Rattle.meaning.specs.declared.Span.{Span}
use Rattle.meaning.specs.declared.Refusal.{Refusal}
use Rattle.meaning.specs.declared.Refusal.TheVariants.{WrongKind, MissingSource, InvalidSourceRange, NotUtf8, InvalidInteger, InvalidString}
use Rattle.meaning.specs.declared.Refusal.TheVariants.{InvalidBitString, InvalidMoney, NoRoom, InvalidDate}
use Rattle.meaning.specs.declared.ReadText.TheVariants as ReadText'
use Rattle.meaning.specs.declared.ReadRefusal.TheVariants as ReadRefusal'
use Rattle.meaning.specs.declared.Text.{Text}
use Rattle.meaning.specs.declared.Text.TheVariants as Text'
use Rattle.meaning.specs.Bytes.{ascii, same, within, is_mark, is_letter, is_decimal, in_name, starts_tag, in_tag, digit, all_digits}
use Rattle.meaning.specs.Chars.{lead, utf8, more, encode, is_scalar, is_space}
use Rattle.meaning.specs.Steps.{doubled, one_byte, may_escape, scalar_by, pair, low_half, uescaped}
use Rattle.meaning.specs.Cutting.{off, on, named, segment, segment_step, cut, complete, continues}
use Rattle.meaning.specs.Spelling.{encloses, argument, upper, is_unicode, unicode_spelling, delimiter, spelling}
use Rattle.meaning.specs.Reading.{Answer, borrowed, written, refused, answer, one, read}
use Rattle.meaning.specs.Kinds.{bit_body, bits, token_start, quote_token, temporal_token, temporal}
use Rattle.meaning.specs.Answers.{kind_code, payload, field_code, refusal_number, refusal_values, text_number, range_number, charset_number, integer_number}
use Rattle.meaning.specs.Answers.{integer_values, truth_number, truth_values, nullness_number, nullness_values, part_shown, shown, range_shown, charset_shown}
use Rattle.meaning.specs.Answers.{shown_place, range_place, charset_place}
use Rattle.meaning.specs.Reads.{read_place}
use Rattle.meaning.specs.Codes.{kind_of}
use Rattle.meaning.specs.Blocks.{numbers_of, refused_four}
use Rattle.meaning.proofs.Rows.{equal, sign_and_size}
use Rattle.std.specs.Prelude.{Result}
use Rattle.meaning.specs.declared.Part.{Part}
use Rattle.meaning.specs.Answers.{part_at}
use Rattle.std.specs.Prelude.{Option, Some, None}

pub data Fact : Type 0 where
  -- at a setting a text cuts completely, or it does not
  cuts : Bool → String → Bool → Fact
  -- with the setting on a temporal text is refused at a place
  breaks_on : String → ℕ → Fact
  -- a number is a white-space character, or it is none
  blank : ℕ → Bool → Fact
  -- a quoted argument of UESCAPE gives the bytes of an escape character; no bytes: it is no legal argument
  argues : String → String → Fact
  -- a kind has a code, and holds these besides; the code of a record gives a kind of that code
  kind : LiteralKind → List ℕ → Fact
  coded : ℕ → Fact
  -- two lists of numbers are the same
  gives : List ℕ → List ℕ → Fact
  -- what is shown of a source and a buffer, and of a source
  shows : Result Text Refusal → String → String → String → Fact
  part_shows : Result Part Refusal → String → String → Fact
  name_shows : Result (Option Part) Refusal → String → String → Fact

abbrev pub refused_at : ℕ → Answer → Bool
refused_at p (borrowed f u) = false
refused_at p (written v) = false
refused_at p (refused q) = eqb p q

-- the setting on, or off
abbrev pub set : Bool → Settings
set true = on
set false = off

abbrev pub holds : Fact → Bool
holds (cuts b t x) = equal (complete (set b) (ascii t)) x
holds (breaks_on t p) = refused_at p (temporal on (ascii t))
holds (blank c x) = equal (is_space c) x
holds (argues a e) = same (argument (ascii a)) (ascii e)
holds (kind k vs) = same (kind_code k ∷ payload k) vs
holds (coded c) = eqb (kind_code (kind_of c)) c
holds (gives vs ws) = same vs ws
holds (shows a source out t) = same (shown (ascii source) (ascii out) a) (ascii t)
holds (part_shows a source t) = same (range_shown (ascii source) a) (ascii t)
holds (name_shows a source t) = same (charset_shown (ascii source) a) (ascii t)

abbrev pub all_hold : List Fact → Bool
all_hold [] = true
all_hold (f ∷ fs) = holds f && all_hold fs

-- [01 Cutting] "it begins with a segment and segments, with or without white space between and after, cover it; a lone segment must be the whole text"
abbrev pub cutting : List Fact
cutting =
    cuts false "''" true ∷ cuts false "'a' " false ∷ cuts false "'a' 'b'" true ∷ cuts false "'a' 'b' " true ∷ cuts false "'a'\"b\"" true ∷
    cuts false "'a''b'" true ∷ cuts false " 'a'" false ∷ cuts false " 'a' 'b'" false ∷ cuts false "" false ∷ cuts false " " false ∷ cuts false "'" false ∷
    cuts false "'a' x" false ∷ cuts false "'a' 'b' x" false ∷ cuts false "'a' 'b" false ∷ cuts false "''E''" true ∷
    cuts false "'a' B'0' x'1' _c\"d\" n'e'" true ∷
    cuts false "$$a$$" false ∷ cuts false "U&'a'" true ∷ cuts false "U&'a' " false ∷ cuts false "U&'a'UESCAPE'!'" false ∷ cuts true "U&'a'UESCAPE'!'" false ∷
    cuts false "U&'\\'" true ∷ cuts true "U&'\\'" false ∷ cuts false "'\\'" true ∷ cuts true "'\\'" false ∷ cuts true "'\\''" true ∷
    cuts false "E'\\''" true ∷ cuts true "e'\\'' 'b'" true ∷ cuts false "e'\\'' 'b'" true ∷ cuts false "'a'ã\u{80}\u{80}'b'" true ∷ []

-- [01 Numbers and the other kinds, Temporal] "setting off": so no question shows what a setting would do, and a definition that is given one must read by it
abbrev pub places : List Fact
places = breaks_on "DATE '\\'''" 8 ∷ breaks_on "DATE '' '\\'" 8 ∷ breaks_on "DATE 'a\\' 'b'" 10 ∷ []

-- [01 Cutting] "9-D, 20, 85, A0, 1680, 2000-200A, 2028-2029, 202F, 205F, 3000": each end, and its neighbours
abbrev pub blanks : List Fact
blanks =
    blank 0 false ∷ blank 0x8 false ∷ blank 0x9 true ∷ blank 0xD true ∷ blank 0xE false ∷ blank 0x1F false ∷ blank 0x20 true ∷ blank 0x21 false ∷
    blank 0x84 false ∷ blank 0x85 true ∷ blank 0x86 false ∷ blank 0x9F false ∷ blank 0xA0 true ∷ blank 0xA1 false ∷ blank 0x167F false ∷ blank 0x1680 true ∷
    blank 0x1681 false ∷ blank 0x180E false ∷ blank 0x1FFF false ∷ blank 0x2000 true ∷ blank 0x200A true ∷ blank 0x200B false ∷ blank 0x2027 false ∷
    blank 0x2028 true ∷ blank 0x2029 true ∷ blank 0x202A false ∷ blank 0x202E false ∷ blank 0x202F true ∷ blank 0x2030 false ∷ blank 0x205E false ∷
    blank 0x205F true ∷ blank 0x2060 false ∷ blank 0x2FFF false ∷ blank 0x3000 true ∷ blank 0x3001 false ∷ blank 0xFEFF false ∷ []

-- [01 One segment] "the escape is one character": a first byte and as many later ones as it makes due, 80 to BF each. The questions that read an argument ask
-- first whether the text is UTF-8, so none shows what becomes of a later byte that is no such byte
abbrev pub arguments : List Fact
arguments =
    argues "'!'" "!" ∷ argues "''" "" ∷ argues "'!!'" "" ∷ argues "''''" "" ∷ argues "'a'" "" ∷ argues "'Ã\u{80}'" "Ã\u{80}" ∷ argues "'Ã¿'" "Ã¿" ∷
    argues "'Ã\u{7f}'" "" ∷ argues "'ÃÀ'" "" ∷ argues "'Ãÿ'" "" ∷ argues "'Ã'" "" ∷ argues "'Ã¿¿'" "" ∷ argues "'¿'" "" ∷ argues "'ÿ'" "" ∷
    argues "'â\u{82}¬'" "â\u{82}¬" ∷ argues "'â\u{82}ÿ'" "" ∷ argues "'âÿ¬'" "" ∷ argues "'ð\u{9d}\u{84}\u{9e}'" "ð\u{9d}\u{84}\u{9e}" ∷
    argues "'ð\u{9d}\u{84}À'" "" ∷ []

-- [01 Record program] the kinds' codes; docs/DECISIONS.md, 10: what a kind holds besides
abbrev pub kinds : List Fact
kinds =
    kind Kind.Integer (1 ∷ []) ∷ kind Kind.Float (2 ∷ []) ∷ kind Kind.Decimal (3 ∷ []) ∷ kind Kind.String (4 ∷ []) ∷ kind (Kind.Boolean true) (5 ∷ []) ∷
    kind (Kind.Boolean false) (6 ∷ []) ∷ kind Kind.Null (7 ∷ []) ∷ kind Kind.Date (8 ∷ []) ∷ kind (Kind.Time Zone.Unspecified) (9 ∷ 0 ∷ []) ∷
    kind (Kind.Time Zone.WithTimeZone) (9 ∷ 1 ∷ []) ∷ kind (Kind.Timestamp Zone.WithoutTimeZone) (10 ∷ 2 ∷ []) ∷
    kind (Kind.Interval None None) (11 ∷ 0 ∷ []) ∷
    kind (Kind.Interval (Some Field.DayToSecond) (Some 6)) (11 ∷ 10 ∷ 6 ∷ []) ∷
    kind (Kind.BitString Binary) (12 ∷ []) ∷ kind (Kind.BitString Hex) (13 ∷ []) ∷ kind Kind.Money (14 ∷ []) ∷
    coded 1 ∷ coded 2 ∷ coded 3 ∷ coded 4 ∷ coded 5 ∷ coded 6 ∷ coded 7 ∷ coded 8 ∷ coded 9 ∷ coded 10 ∷ coded 11 ∷ coded 12 ∷ coded 13 ∷ coded 14 ∷ []

abbrev pub fields : List IntervalFields
fields =
    Field.Year ∷ Field.Month ∷ Field.Day ∷ Field.Hour ∷ Field.Minute ∷ Field.Second ∷ Field.YearToMonth ∷ Field.DayToHour ∷ Field.DayToMinute ∷
    Field.DayToSecond ∷ Field.HourToMinute ∷ Field.HourToSecond ∷ Field.MinuteToSecond ∷ Field.Week ∷ Field.Quarter ∷ Field.Decade ∷ Field.Century ∷
    Field.Millennium ∷ Field.Millisecond ∷ Field.Microsecond ∷ Field.DayToMicrosecond ∷ Field.HourToMicrosecond ∷ Field.MinuteToMicrosecond ∷
    Field.SecondToMicrosecond ∷ []

-- [01 Numbers an answer can carry; 02 T-03] a span, and a refusal of each number
abbrev pub here : Span
here = record { start = 7; end = 5 }

abbrev pub refusals : List Refusal
refusals =
    WrongKind Expected.Money Kind.Null ∷ MissingSource here ∷ InvalidSourceRange here ∷ NotUtf8 here ∷ InvalidInteger here ∷ InvalidString here 4 ∷
    InvalidBitString here ∷ InvalidMoney here ∷ NoRoom 3 ∷ InvalidDate here ∷ []

abbrev pub numbers : List Fact
numbers =
    gives (map field_code fields) (1 ∷ 2 ∷ 3 ∷ 4 ∷ 5 ∷ 6 ∷ 7 ∷ 8 ∷ 9 ∷ 10 ∷ 11 ∷ 12 ∷ 13 ∷ 14 ∷ 15 ∷ 16 ∷ 17 ∷ 18 ∷ 19 ∷ 20 ∷ 21 ∷ 22 ∷ 23 ∷ 24 ∷ []) ∷
    gives (map refusal_number refusals) (1 ∷ 2 ∷ 3 ∷ 4 ∷ 5 ∷ 6 ∷ 7 ∷ 8 ∷ 9 ∷ 14 ∷ []) ∷
    gives (refusal_values (WrongKind Expected.Money (Kind.Time Zone.WithTimeZone))) (8 ∷ 9 ∷ 1 ∷ []) ∷ gives (refusal_values (MissingSource here)) (7 ∷ 5 ∷ []) ∷
    gives (refusal_values (NoRoom 3)) (3 ∷ []) ∷ gives (refusal_values (InvalidString here 4)) (7 ∷ 5 ∷ 4 ∷ []) ∷
    gives (refusal_values (InvalidBitString here)) (7 ∷ 5 ∷ []) ∷ gives (refusal_values (InvalidDate here)) (7 ∷ 5 ∷ []) ∷
    gives (refusal_values (WrongKind Expected.Date Kind.Null)) (9 ∷ 7 ∷ []) ∷
    gives
    (numbers_of (map refused_four refusals))
    (1 ∷ 0 ∷ 0 ∷ 0 ∷ 2 ∷ 0 ∷ 0 ∷ 0 ∷ 3 ∷ 0 ∷ 0 ∷ 0 ∷ 4 ∷ 0 ∷ 0 ∷ 0 ∷ 5 ∷ 0 ∷ 0 ∷ 0 ∷ 6 ∷ 0 ∷ 4 ∷ 0 ∷ 7 ∷ 0 ∷ 0 ∷ 0 ∷ 8 ∷ 0 ∷ 0 ∷ 0 ∷ 9 ∷ 0 ∷ 0 ∷ 3 ∷ 14 ∷ 0 ∷ 0 ∷ 0 ∷ []) ∷
    gives (map (λ r. text_number (Err r)) refusals) (map refusal_number refusals) ∷
    gives (map (λ r. range_number (Err r)) refusals) (map refusal_number refusals) ∷
    gives (map (λ r. charset_number (Err r)) refusals) (map refusal_number refusals) ∷
    gives (map (λ r. integer_number (Err r)) refusals) (map refusal_number refusals) ∷
    gives (map (λ r. truth_number (Err r)) refusals) (map refusal_number refusals) ∷
    gives (map (λ r. nullness_number (Err r)) refusals) (map refusal_number refusals) ∷
    gives (integer_number (Ok (negsuc 4)) ∷ sign_and_size (integer_values (Ok (negsuc 4)))) (0 ∷ 1 ∷ 5 ∷ []) ∷
    gives (sign_and_size (integer_values (Err (NotUtf8 here)))) (0 ∷ 7 ∷ 0 ∷ 5 ∷ []) ∷
    gives (truth_number (Ok false) ∷ truth_values (Ok false)) (0 ∷ 0 ∷ []) ∷
    gives (nullness_number (Ok tt) ∷ nullness_values (Ok tt)) (0 ∷ []) ∷ []

-- [01 What is carried over] "a range that doesn't fit its slice, or a refusal, shows an empty part"
abbrev pub views : List Fact
views =
    shows (Ok (Text'.Borrowed 1 3)) "abc" "xyz" "bc" ∷ shows (Ok (Text'.Borrowed 3 3)) "abc" "xyz" "" ∷ shows (Ok (Text'.Borrowed 2 1)) "abc" "xyz" "" ∷
    shows (Ok (Text'.Borrowed 0 4)) "abc" "xyzw" "" ∷ shows (Ok (Text'.Borrowed 4 4)) "abc" "xyzw" "" ∷ shows (Ok (Text'.Written 2)) "abc" "xyz" "xy" ∷
    shows (Ok (Text'.Written 4)) "abcd" "xyz" "" ∷ shows (Err (NoRoom 2)) "abc" "xyz" "" ∷
    part_shows (Ok (part_at 0 2)) "abc" "ab" ∷ part_shows (Ok (part_at 1 4)) "abc" "" ∷ part_shows (Ok (part_at 2 1)) "abc" "" ∷
    part_shows (Err (InvalidMoney here)) "abc" "" ∷ name_shows (Ok (Some (part_at 1 2))) "abc" "b" ∷ name_shows (Ok (Some (part_at 1 4))) "abc" "" ∷
    name_shows (Ok None) "abc" "" ∷ name_shows (Err (NotUtf8 here)) "abc" "" ∷ []

-- [01 Where each language form goes] "returned as slices of the lent source, proved to be that range": where a part stands. The source's three bytes are at
-- place 10 of block 1 of the memory, the buffer's three at place 20 of block 2
abbrev source : Bor (List ℕ)
source = record { ref_ptr = (1, 10); now = ascii "abc" }

abbrev buffer : Bor (List ℕ)
buffer = record { ref_ptr = (2, 20); now = ascii "xyz" }

abbrev stands : ℕ × ℕ → ℕ → ℕ → Fact
stands p block place = gives (p.0 ∷ p.1 ∷ []) (block ∷ place ∷ [])

abbrev pub standing : List Fact
standing =
    stands (shown_place source buffer (Ok (Text'.Borrowed 1 3))) 1 11 ∷ stands (shown_place source buffer (Ok (Text'.Borrowed 3 3))) 1 13 ∷
    stands (shown_place source buffer (Ok (Text'.Borrowed 2 1))) 1 10 ∷ stands (shown_place source buffer (Ok (Text'.Borrowed 1 4))) 1 10 ∷
    stands (shown_place source buffer (Ok (Text'.Written 2))) 2 20 ∷ stands (shown_place source buffer (Ok (Text'.Written 4))) 2 20 ∷
    stands (shown_place source buffer (Err (NoRoom 4))) 1 10 ∷
    stands (range_place source (Ok (part_at 1 2))) 1 11 ∷ stands (range_place source (Ok (part_at 1 4))) 1 10 ∷
    stands (range_place source (Err (InvalidMoney here))) 1 10 ∷
    stands (charset_place source (Ok (Some (part_at 1 2)))) 1 11 ∷ stands (charset_place source (Ok (Some (part_at 1 4)))) 1 10 ∷
    stands (charset_place source (Ok None)) 1 10 ∷ stands (charset_place source (Err (NotUtf8 here))) 1 10 ∷
    stands (read_place source buffer (Ok (ReadText'.Borrowed 1 2))) 1 11 ∷ stands (read_place source buffer (Ok (ReadText'.Written 2))) 2 20 ∷
    stands (read_place source buffer (Err (ReadRefusal'.At 1))) 1 10 ∷ stands (read_place source buffer (Err (ReadRefusal'.NoRoom 4))) 1 10 ∷ []

pub facts_hold : T (all_hold cutting && all_hold places && all_hold blanks && all_hold arguments && all_hold kinds && all_hold numbers && all_hold views
    && all_hold standing)
unfolding within is_mark is_letter is_decimal in_name starts_tag in_tag digit all_digits lead utf8 more encode is_scalar is_space doubled one_byte may_escape scalar_by pair
    low_half uescaped named segment segment_step cut complete continues encloses argument upper is_unicode unicode_spelling delimiter spelling answer one read
    bit_body bits token_start quote_token temporal_token temporal part_shown
facts_hold = tt
