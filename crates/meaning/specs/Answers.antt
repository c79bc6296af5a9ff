-- [01 Numbers an answer can carry] The number and the values that each case of each answer stands for; what is shown of a text; and
-- what every contract says. Assumes nothing.
use Rattle.std.specs.Prelude.{true, false, ◌&&◌, ◌≡◌, List, [], ◌∷◌, ◌++◌, map, ℕ, ◌+◌, leb, length, drop, ℤ, pos, Result, Ok, Err}
use Rattle.std.specs.Borrow.{Bor}
use Rattle.meaning.specs.declared.TimeZone.{TimeZone}
use Rattle.meaning.specs.declared.TimeZone.TheVariants as Zone
use Rattle.meaning.specs.declared.IntervalFields.{IntervalFields}
use Rattle.meaning.specs.declared.IntervalFields.TheVariants as Field
use Rattle.meaning.specs.declared.BitStringRadix.TheVariants.{Binary, Hex}
use Rattle.meaning.specs.declared.LiteralKind.{LiteralKind}
use Rattle.meaning.specs.declared.LiteralKind.TheVariants as Kind
use Rattle.meaning.specs.declared.LiteralExpected.{LiteralExpected}
use Rattle.meaning.specs.declared.LiteralExpected.TheVariants as Expected
use Rattle.meaning.specs.declared.Span.{Span}
use Rattle.meaning.specs.declared.Refusal.{Refusal}
use Rattle.meaning.specs.declared.Refusal.TheVariants.{WrongKind, MissingSource, InvalidSourceRange, NotUtf8, InvalidInteger, InvalidString}
use Rattle.meaning.specs.declared.Refusal.TheVariants.{InvalidBitString, InvalidMoney, NoRoom, InvalidDate}
use Rattle.meaning.specs.declared.Text.{Text}
use Rattle.meaning.specs.declared.Text.TheVariants as Text'
use Rattle.meaning.specs.declared.WritingError.{WritingError}
use Rattle.meaning.specs.declared.WritingError.TheVariants as WritingError'
use Rattle.meaning.specs.declared.CalendarDay.{CalendarDay}
use Rattle.meaning.specs.declared.BitWritingError.{BitWritingError}
use Rattle.meaning.specs.declared.BitWritingError.TheVariants as BitWritingError'
use Rattle.meaning.specs.Bytes.{part}
use Rattle.std.specs.Prelude.{if◌then◌else◌}
use Rattle.std.specs.Prelude.{Bool}
use Rattle.meaning.specs.declared.Part.{Part}
use Rattle.std.specs.Prelude.{Option, Some, None}
use Rattle.meaning.specs.declared.IdentifierError.{IdentifierError}
use Rattle.meaning.specs.declared.IdentifierError.TheVariants as IdentifierError'
use Rattle.meaning.specs.declared.PackedBits.{PackedBits}

-- VALUES. A literal's kind by the record program's code, and what it holds besides
abbrev pub kind_code : LiteralKind → ℕ
kind_code Kind.Integer = 1
kind_code Kind.Float = 2
kind_code Kind.Decimal = 3
kind_code Kind.String = 4
kind_code (Kind.Boolean true) = 5
kind_code (Kind.Boolean false) = 6
kind_code Kind.Null = 7
kind_code Kind.Date = 8
kind_code (Kind.Time z) = 9
kind_code (Kind.Timestamp z) = 10
kind_code (Kind.Interval f p) = 11
kind_code (Kind.BitString Binary) = 12
kind_code (Kind.BitString Hex) = 13
kind_code Kind.Money = 14

-- the families a question expects, in the order of `LiteralExpected`. [02 T-05] dates, behind those of 01
abbrev pub expected_code : LiteralExpected → ℕ
expected_code Expected.Integer = 1
expected_code Expected.DecimalText = 2
expected_code Expected.String = 3
expected_code Expected.Boolean = 4
expected_code Expected.Null = 5
expected_code Expected.Temporal = 6
expected_code Expected.BitString = 7
expected_code Expected.Money = 8
expected_code Expected.Date = 9

abbrev pub zone_code : TimeZone → ℕ
zone_code Zone.Unspecified = 0
zone_code Zone.WithTimeZone = 1
zone_code Zone.WithoutTimeZone = 2

-- in the order of `IntervalFields`, from 1
abbrev pub field_code : IntervalFields → ℕ
field_code Field.Year = 1
field_code Field.Month = 2
field_code Field.Day = 3
field_code Field.Hour = 4
field_code Field.Minute = 5
field_code Field.Second = 6
field_code Field.YearToMonth = 7
field_code Field.DayToHour = 8
field_code Field.DayToMinute = 9
field_code Field.DayToSecond = 10
field_code Field.HourToMinute = 11
field_code Field.HourToSecond = 12
field_code Field.MinuteToSecond = 13
field_code Field.Week = 14
field_code Field.Quarter = 15
field_code Field.Decade = 16
field_code Field.Century = 17
field_code Field.Millennium = 18
field_code Field.Millisecond = 19
field_code Field.Microsecond = 20
field_code Field.DayToMicrosecond = 21
field_code Field.HourToMicrosecond = 22
field_code Field.MinuteToMicrosecond = 23
field_code Field.SecondToMicrosecond = 24

abbrev pub fields_code : Option IntervalFields → ℕ
fields_code None = 0
fields_code (Some f) = field_code f

-- none, or one number
abbrev pub precision_values : Option ℕ → List ℕ
precision_values None = []
precision_values (Some n) = n ∷ []

abbrev pub payload : LiteralKind → List ℕ
payload Kind.Integer = []
payload Kind.Float = []
payload Kind.Decimal = []
payload Kind.String = []
payload (Kind.Boolean b) = []
payload Kind.Null = []
payload Kind.Date = []
payload (Kind.Time z) = zone_code z ∷ []
payload (Kind.Timestamp z) = zone_code z ∷ []
payload (Kind.Interval f p) = fields_code f ∷ precision_values p
payload (Kind.BitString r) = []
payload Kind.Money = []

abbrev pub span_values : Span → List ℕ
span_values s = s.start ∷ s.end ∷ []

-- REFUSALS 1 to 9: the number, and what it returns. [02 T-04] "6 gains the place". [02 T-05] 14
abbrev pub refusal_number : Refusal → ℕ
refusal_number (WrongKind e k) = 1
refusal_number (MissingSource s) = 2
refusal_number (InvalidSourceRange s) = 3
refusal_number (NotUtf8 s) = 4
refusal_number (InvalidInteger s) = 5
refusal_number (InvalidString s p) = 6
refusal_number (InvalidBitString s) = 7
refusal_number (InvalidMoney s) = 8
refusal_number (NoRoom n) = 9
refusal_number (InvalidDate s) = 14

abbrev pub refusal_values : Refusal → List ℕ
refusal_values (WrongKind e k) = expected_code e ∷ kind_code k ∷ payload k
refusal_values (MissingSource s) = span_values s
refusal_values (InvalidSourceRange s) = span_values s
refusal_values (NotUtf8 s) = span_values s
refusal_values (InvalidInteger s) = span_values s
refusal_values (InvalidString s p) = s.start ∷ s.end ∷ p ∷ []
refusal_values (InvalidBitString s) = span_values s
refusal_values (InvalidMoney s) = span_values s
refusal_values (NoRoom n) = n ∷ []
refusal_values (InvalidDate s) = span_values s

-- a part of the source from a place up to another, and packed bytes of so many bits
abbrev pub part_at : ℕ → ℕ → Part
part_at f u = record { start = f; end = u }

abbrev pub packed_at : ℕ → ℕ → PackedBits
packed_at n b = record { len = n; bits = b }

-- EVERY ANSWER's number, and its values
abbrev pub text_number : Result Text Refusal → ℕ
text_number (Ok (Text'.Borrowed f u)) = 0
text_number (Ok (Text'.Written n)) = 0
text_number (Err r) = refusal_number r

abbrev pub text_values : Result Text Refusal → List ℕ
text_values (Ok (Text'.Borrowed f u)) = f ∷ u ∷ []
text_values (Ok (Text'.Written n)) = n ∷ []
text_values (Err r) = refusal_values r

abbrev pub range_number : Result Part Refusal → ℕ
range_number (Ok π) = 0
range_number (Err r) = refusal_number r

abbrev pub range_values : Result Part Refusal → List ℕ
range_values (Ok π) = π.start ∷ π.end ∷ []
range_values (Err r) = refusal_values r

abbrev pub charset_number : Result (Option Part) Refusal → ℕ
charset_number (Ok (Some π)) = 0
charset_number (Ok None) = 0
charset_number (Err r) = refusal_number r

-- without a name there is no value: a case of its own, since a name is never empty
abbrev pub charset_values : Result (Option Part) Refusal → List ℕ
charset_values (Ok (Some π)) = π.start ∷ π.end ∷ []
charset_values (Ok None) = []
charset_values (Err r) = refusal_values r

abbrev pub integer_number : Result ℤ Refusal → ℕ
integer_number (Ok z) = 0
integer_number (Err r) = refusal_number r

-- the integer; and a refusal's values, none of which is below 0
abbrev pub integer_values : Result ℤ Refusal → List ℤ
integer_values (Ok z) = z ∷ []
integer_values (Err r) = map pos (refusal_values r)

abbrev pub truth_number : Result Bool Refusal → ℕ
truth_number (Ok b) = 0
truth_number (Err r) = refusal_number r

-- 1 for true, 0 for false
abbrev pub truth_values : Result Bool Refusal → List ℕ
truth_values (Ok true) = 1 ∷ []
truth_values (Ok false) = 0 ∷ []
truth_values (Err r) = refusal_values r

abbrev pub nullness_number : Result (Unit {0}) Refusal → ℕ
nullness_number (Ok tt) = 0
nullness_number (Err r) = refusal_number r

abbrev pub nullness_values : Result (Unit {0}) Refusal → List ℕ
nullness_values (Ok tt) = []
nullness_values (Err r) = refusal_values r

-- "Where a call has no literal .., 4 and 6 return the number alone"
abbrev pub identifier_number : Result Text IdentifierError → ℕ
identifier_number (Ok (Text'.Borrowed f u)) = 0
identifier_number (Ok (Text'.Written n)) = 0
identifier_number (Err IdentifierError'.NotUtf8) = 4
identifier_number (Err IdentifierError'.InvalidString) = 6
identifier_number (Err (IdentifierError'.NoRoom n)) = 9

abbrev pub identifier_values : Result Text IdentifierError → List ℕ
identifier_values (Ok (Text'.Borrowed f u)) = f ∷ u ∷ []
identifier_values (Ok (Text'.Written n)) = n ∷ []
identifier_values (Err IdentifierError'.NotUtf8) = []
identifier_values (Err IdentifierError'.InvalidString) = []
identifier_values (Err (IdentifierError'.NoRoom n)) = n ∷ []

abbrev pub writing_number : Result ℕ WritingError → ℕ
writing_number (Ok n) = 0
writing_number (Err WritingError'.OverLimit) = 12
writing_number (Err WritingError'.NotUtf8) = 4
writing_number (Err WritingError'.HoldsNul) = 11
writing_number (Err (WritingError'.NoRoom n)) = 9

abbrev pub writing_values : Result ℕ WritingError → List ℕ
writing_values (Ok n) = n ∷ []
writing_values (Err WritingError'.OverLimit) = []
writing_values (Err WritingError'.NotUtf8) = []
writing_values (Err WritingError'.HoldsNul) = []
writing_values (Err (WritingError'.NoRoom n)) = n ∷ []

-- [02 T-05] "year, month, day and a day number"; without a literal 14 returns the number alone
abbrev pub day_values : CalendarDay → List ℕ
day_values d = d.year ∷ d.month ∷ d.day ∷ d.number ∷ []

abbrev pub found_number : Option CalendarDay → ℕ
found_number (Some d) = 0
found_number None = 14

abbrev pub found_values : Option CalendarDay → List ℕ
found_values (Some d) = day_values d
found_values None = []

abbrev pub dated_number : Result CalendarDay Refusal → ℕ
dated_number (Ok d) = 0
dated_number (Err r) = refusal_number r

abbrev pub dated_values : Result CalendarDay Refusal → List ℕ
dated_values (Ok d) = day_values d
dated_values (Err r) = refusal_values r

-- [02 T-07] "packed bytes and bit count"; on 9 there is no bit count. The reverse has no literal: 12 and 16 return the number alone
abbrev pub packed_number : Result PackedBits Refusal → ℕ
packed_number (Ok π) = 0
packed_number (Err r) = refusal_number r

abbrev pub packed_values : Result PackedBits Refusal → List ℕ
packed_values (Ok π) = π.len ∷ π.bits ∷ []
packed_values (Err r) = refusal_values r

abbrev pub bit_writing_number : Result ℕ BitWritingError → ℕ
bit_writing_number (Ok n) = 0
bit_writing_number (Err BitWritingError'.OverLimit) = 12
bit_writing_number (Err BitWritingError'.BadBits) = 16
bit_writing_number (Err (BitWritingError'.NoRoom n)) = 9

abbrev pub bit_writing_values : Result ℕ BitWritingError → List ℕ
bit_writing_values (Ok n) = n ∷ []
bit_writing_values (Err BitWritingError'.OverLimit) = []
bit_writing_values (Err BitWritingError'.BadBits) = []
bit_writing_values (Err (BitWritingError'.NoRoom n)) = n ∷ []

-- THE VIEW. "a range that doesn't fit its slice, or a refusal, shows an empty part"
unfoldable pub part_shown : ℕ → ℕ → List ℕ → List ℕ
part_shown f u t = if leb f u && leb u (length t) then part f u t else []

abbrev pub shown : List ℕ → List ℕ → Result Text Refusal → List ℕ
shown source out (Ok (Text'.Borrowed f u)) = part_shown f u source
shown source out (Ok (Text'.Written n)) = part_shown 0 n out
shown source out (Err r) = []

abbrev pub range_shown : List ℕ → Result Part Refusal → List ℕ
range_shown source (Ok π) = part_shown π.start π.end source
range_shown source (Err r) = []

abbrev pub charset_shown : List ℕ → Result (Option Part) Refusal → List ℕ
charset_shown source (Ok (Some π)) = part_shown π.start π.end source
charset_shown source (Ok None) = []
charset_shown source (Err r) = []

-- WHERE IT STANDS. "returned as slices of the lent source, proved to be that range": in the memory of a lent slice, as many bytes behind its start as the
-- range's; a range that doesn't fit its slice shows an empty part at the slice's start, and a refusal one at the source's
abbrev pub part_place : ℕ → ℕ → Bor (List ℕ) → ℕ × ℕ
part_place f u lent = (lent.ref_ptr.0, lent.ref_ptr.1 + (if leb f u && leb u (length lent.now) then f else 0))

abbrev pub shown_place : Bor (List ℕ) → Bor (List ℕ) → Result Text Refusal → ℕ × ℕ
shown_place source out (Ok (Text'.Borrowed f u)) = part_place f u source
shown_place source out (Ok (Text'.Written n)) = part_place 0 n out
shown_place source out (Err r) = source.ref_ptr

abbrev pub range_place : Bor (List ℕ) → Result Part Refusal → ℕ × ℕ
range_place source (Ok π) = part_place π.start π.end source
range_place source (Err r) = source.ref_ptr

abbrev pub charset_place : Bor (List ℕ) → Result (Option Part) Refusal → ℕ × ℕ
charset_place source (Ok (Some π)) = part_place π.start π.end source
charset_place source (Ok None) = source.ref_ptr
charset_place source (Err r) = source.ref_ptr

-- what a contract says of a returned slice: its bytes, and where it stands
pub record IsPart (v : List ℕ) (at : ℕ × ℕ) (r : Bor (List ℕ)) : Type 0 where
  pub bytes : r.now ≡ v
  pub place : r.ref_ptr ≡ at

-- THE BUFFER. A length n with room for m: "would be written, and the buffer is shorter"
abbrev pub by_room : {A : Type 0} → (ℕ → A) → (ℕ → A) → ℕ → ℕ → A
by_room written short n m = if leb n m then written n else short n

-- "Written text fills the buffer's start; the remainder is unchanged"
unfoldable pub filled : List ℕ → List ℕ → List ℕ
filled v out = if leb (length v) (length out) then v ++ drop (length v) out else out

-- what a question answers, and every byte that the buffer then holds
pub record Outcome (A : Type 0) : Type 0 where
  pub answer : A
  pub buffer : List ℕ

-- what a contract says of a result r and the final buffer: both are the definition's
pub record Meets {A : Type 0} (o : Outcome A) (r : A) (after : List ℕ) : Type 0 where
  pub answer : r ≡ o.answer
  pub buffer : after ≡ o.buffer
