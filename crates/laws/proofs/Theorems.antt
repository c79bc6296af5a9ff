-- What is promised, and what proves it: begin here. Each theorem is a sentence of the order or of documents 01 and 02, in their order; those of room, behind
-- these, are what include/valdrabus.h says of buffers. Its type says the sentence over the definitions of `meaning`, and its body names the law that proves it,
-- with the file that holds it. Where code carries a sentence, a comment names the crate: its contracts cite the same definitions. Assumes nothing.
use mathlib.Core.Logic.{◌⊎◌, ◌↔◌}
use mathlib.Core.Path.{◌≡◌}
use mathlib.Core.Bool.{Bool, true, false}
use mathlib.Core.List.{List, [], ◌∷◌, ◌++◌, flatten}
use Prim.Native.Nat.{ℕ, suc, ◌+◌, ◌-◌, ◌*◌, ◌/◌, ◌%◌, ◌^◌, ◌≤◌, ◌<◌}
use lib.Dec.{T}
use lib.IntN.{ℤ, neg_ℤ}
use lib.ListN.{length, get_or, take, drop, replicate}
use denote.Ref.{Bor}
use Rattle.meaning.specs.declared.Settings.{Settings}
use Rattle.meaning.specs.declared.PartSize.{PartSize}
use Rattle.meaning.specs.declared.Form.{Form}
use Rattle.meaning.specs.declared.LiteralKind.{LiteralKind}
use Rattle.meaning.specs.declared.LiteralKind.TheVariants as Kind
use Rattle.meaning.specs.declared.Span.{Span}
use Rattle.meaning.specs.declared.Literal.{Literal}
use Rattle.meaning.specs.declared.Refusal.{Refusal}
use Rattle.meaning.specs.declared.LiteralExpected.TheVariants as Expected
use Rattle.meaning.specs.declared.Refusal.TheVariants.{WrongKind, NotUtf8, InvalidString, NoRoom, InvalidDate}
use Rattle.meaning.specs.declared.Text.{Text}
use Rattle.meaning.specs.declared.Text.TheVariants as Text
use Rattle.meaning.specs.declared.WritingError.TheVariants as WritingError
use Rattle.meaning.specs.declared.CalendarDay.{CalendarDay}
use Rattle.meaning.specs.declared.BitStringRadix.{BitStringRadix}
use Rattle.meaning.specs.declared.BitWritingError.TheVariants as BitWritingError
use Rattle.meaning.specs.declared.ReadText.{ReadText}
use Rattle.meaning.specs.declared.ReadRefusal.{ReadRefusal}
use Rattle.meaning.specs.declared.Item.{Item}
use Rattle.meaning.specs.declared.Four.{Four}
use Rattle.meaning.specs.Bytes.{◌!◌, part, within, is_mark, quote, backslash, digits, digit, number, has, starts}
use Rattle.meaning.specs.Chars.{Due, broken, fresh, pushes, whole, utf8, is_scalar, space}
use Rattle.meaning.specs.Walk.{Step, stop, Trace, stopped, gave, walk, size, stops, plain, value}
use Rattle.meaning.specs.Steps.{standard_step, escape_step, unicode_step, checked, gap, trim}
use Rattle.meaning.specs.Cutting.{off, opening, segment, cut, complete, continues}
use Rattle.meaning.specs.Spelling.{spelling}
use Rattle.meaning.specs.Kinds.{bits, token, no_token, temporal_token, temporal}
use Rattle.meaning.specs.Reading.{Answer, written, refused, one, alone, read, means, fails, value_of, meaning}
use Rattle.meaning.specs.Numbers.{fits, printed}
use Rattle.meaning.specs.Halves.{joined_halves, negated_high, negated_low, bits_of, text_of}
use Rattle.meaning.specs.Helpers.{uescape_legal, escape_valid, unicode_valid, ident}
use Rattle.meaning.specs.Answers.{Outcome, Meets, IsPart, text_number, truth_number, nullness_number, refusal_number, dated_number, kind_code, part_shown}
use Rattle.meaning.specs.Answers.{part_place, shown, identifier_number, packed_number, bit_writing_number}
use Rattle.meaning.specs.Reads.{Reads}
use Rattle.meaning.specs.Questions.{bad_span, is_string, is_temporal, bit_base, string_question, decimal_question, bits_question, temporal_question, i64_question, money_question}
use Rattle.meaning.specs.Questions.{charset_question, source_question, bool_question, null_question, identifier_question}
use Rattle.meaning.specs.Writer.{spells, between, parts_from, parts_of, over_limit, part_too_small, written_text, write_question}
use Rattle.meaning.specs.Forms.{form_opening, form_text, form_question}
use Rattle.meaning.specs.Records.{record_line, output}
use Rattle.meaning.specs.Codes.{is_known, literal_of, settings_of}
use Rattle.meaning.specs.Blocks.{items_of, numbers_of, four, four_of, item_question, asked_as, item_asked, block_at, bad_block, BlockOutcome, block_call, Blocks}
use Rattle.meaning.specs.Dates.{month_length, day_number, is_day, calendar_day, date_of, last_day, day_question, is_date, spelled_day, day_in, is_date_kind, dated_on}
use Rattle.meaning.specs.Dates.{date_question}
use Rattle.meaning.specs.Packing.{spread, gather, bits_per, bits_in, packs_as, packed_question, radix_bits, bit_literal, packed_length, bad_bits, bit_writes}
use Rattle.meaning.specs.Packing.{bit_write_question}
use Rattle.meaning.proofs.Rows.{all}
use Rattle.laws.proofs.basics.Digits as Digits
use Rattle.laws.proofs.basics.Digits.{DigitsTo}
use Rattle.laws.proofs.basics.Halves as Halves
use Rattle.laws.proofs.utf8.Utf8 as Utf8
use Rattle.laws.proofs.utf8.Encode as Encode
use Rattle.laws.proofs.utf8.Encode.{Decodes}
use Rattle.laws.proofs.utf8.Sequences as Sequences
use Rattle.laws.proofs.utf8.Sequences.{encodes, AllScalar}
use Rattle.laws.proofs.utf8.WhiteUtf8 as WhiteUtf8
use Rattle.laws.proofs.utf8.HelpersUtf8 as HelpersUtf8
use Rattle.laws.proofs.walking.Walks as Walks
use Rattle.laws.proofs.walking.Walks.{graft}
use Rattle.laws.proofs.walking.Courses as Courses
use Rattle.laws.proofs.walking.Short as Short
use Rattle.laws.proofs.cutting.Gaps as Gaps
use Rattle.laws.proofs.cutting.Openings as Openings
use Rattle.laws.proofs.cutting.Cuts as Cuts
use Rattle.laws.proofs.cutting.Cuts.{segments_of, covered, Values}
use Rattle.laws.proofs.joining.Joining.{White}
use Rattle.laws.proofs.joining.JoiningLaw as JoiningLaw
use Rattle.laws.proofs.joining.JoiningLaw.{Accepts, Complete, Gap}
use Rattle.laws.proofs.joining.Segments as Segments
use Rattle.laws.proofs.joining.Segments.{Whole, AllAccepted, Several}
use Rattle.laws.proofs.joining.Strung as Strung
use Rattle.laws.proofs.joining.Strung.{Further, strung, segments}
use Rattle.laws.proofs.joining.Parts.{Part, Next, chain, all_of}
use Rattle.laws.proofs.writing.Written as Written
use Rattle.laws.proofs.writing.WriterParts as WriterParts
use Rattle.laws.proofs.writing.WriterParts.{Accepted, Portioned}
use Rattle.laws.proofs.writing.WriterText as WriterText
use Rattle.laws.proofs.writing.WriterText.{costs}
use Rattle.laws.proofs.writing.WrittenParts as WrittenParts
use Rattle.laws.proofs.writing.WrittenParts.{Sized, CutInto}
use Rattle.laws.proofs.writing.RoundTrip as RoundTrip
use Rattle.laws.proofs.writing.FormText.{FormAccepted}
use Rattle.laws.proofs.writing.FormRoundTrip as FormRoundTrip
use Rattle.laws.proofs.questions.Asked as Asked
use Rattle.laws.proofs.questions.Asked.{Spans}
use Rattle.laws.proofs.questions.Determined as Determined
use Rattle.laws.proofs.questions.Determined.{Same, SameBlock, SamePart}
use Rattle.laws.proofs.questions.Views as Views
use Rattle.laws.proofs.questions.OnlyKinds as OnlyKinds
use Rattle.laws.proofs.questions.OnlyKinds.{ZeroOrOne}
use Rattle.laws.proofs.questions.Sources as Sources
use Rattle.laws.proofs.questions.Sources.{Agree}
use Rattle.laws.proofs.questions.Buffers as Buffers
use Rattle.laws.proofs.questions.Buffers.{TextLeaves, IdentifierLeaves, WritingLeaves, PackedLeaves, BitWritingLeaves}
use Rattle.laws.proofs.questions.Ranges as Ranges
use Rattle.laws.proofs.questions.Ranges.{Bounds, Answered}
use Rattle.laws.proofs.questions.Answered as Accepting
use Rattle.laws.proofs.questions.Calls as Calls
use Rattle.laws.proofs.questions.Calls.{StringCall, WriterCall, Shows, PartWritten, calls_chain}
use Rattle.laws.proofs.questions.RecordOutput as RecordOutput
use Rattle.laws.proofs.questions.Items as Items
use Rattle.laws.proofs.questions.Blocks as BlockLaws
use Rattle.laws.proofs.questions.Blocks.{taken, asked_behind, lengths_written, written_by, blocks_joined}
use Rattle.laws.proofs.questions.Fits as Fits
use Rattle.laws.proofs.questions.Fits.{AllFit}
use Rattle.laws.proofs.questions.BlockCalls as BlockCalls
use Rattle.laws.proofs.questions.BlockCalls.{Admitted, ZeroOr15, BlockLeaves}
use Rattle.laws.proofs.questions.BlockSplits as BlockSplits
use Rattle.laws.proofs.questions.BlockSplits.{moved_starts}
use Rattle.laws.proofs.questions.BlockReturns as BlockReturns
use Rattle.laws.proofs.questions.BlockReturns.{BlockCall, room_from, Returned, LeavesOut, Splits}
use Rattle.laws.proofs.places.Bodies as Bodies
use Rattle.laws.proofs.places.Bodies.{StopsIn}
use Rattle.laws.proofs.places.Alone.{PlaceIn}
use Rattle.laws.proofs.places.Joined as PlaceJoined
use Rattle.laws.proofs.places.Joined.{second}
use Rattle.laws.proofs.places.Whole as PlaceWhole
use Rattle.laws.proofs.places.Whole.{Refusing}
use Rattle.laws.proofs.places.Temporal as PlaceTemporal
use Rattle.laws.proofs.places.Told as PlaceTold
use Rattle.laws.proofs.places.Told.{stopped_at, TemporalCall, Taken}
use Rattle.laws.proofs.dates.Calendar as Calendar
use Rattle.laws.proofs.dates.Calendar.{Earlier}
use Rattle.laws.proofs.dates.Spelt as DateSpelt
use Rattle.laws.proofs.dates.Asked as DateAsked
use Rattle.laws.proofs.dates.Asked.{DayOf, date_numbers}
use Rattle.laws.proofs.dates.Ordered as DateOrdered
use Rattle.laws.proofs.dates.Ordered.{bytes_below}
use Rattle.laws.proofs.dates.Joined as DateJoined
use Rattle.laws.proofs.dates.Joined.{quoted, TwoOf}
use Rattle.laws.proofs.dates.Called as DateCalled
use Rattle.laws.proofs.dates.Called.{DateCall, DayCall}
use Rattle.laws.proofs.packing.Gathered as Gathered
use Rattle.laws.proofs.packing.Gathered.{Below, units}
use Rattle.laws.proofs.packing.Segment.{bit_text}
use Rattle.laws.proofs.packing.Asked as PackAsked
use Rattle.laws.proofs.packing.Asked.{PackedAs, packed_numbers}
use Rattle.laws.proofs.packing.Reverse as PackReverse
use Rattle.laws.proofs.packing.Reverse.{Fine, Answers, reverse_numbers}
use Rattle.laws.proofs.packing.Long as PackLong
use Rattle.laws.proofs.packing.RoundTrip as PackRoundTrip
use Rattle.laws.proofs.packing.RoundTrip.{OneUpper}
use Rattle.laws.proofs.packing.Joined as PackJoined
use Rattle.laws.proofs.packing.Joined.{Run, runs, run_digits}
use Rattle.laws.proofs.packing.Called as PackCalled
use Rattle.laws.proofs.packing.Called.{PackedCall, BitWriterCall}
use Rattle.laws.proofs.room.Told.{spanned}
use Rattle.laws.proofs.room.Values as RoomValues
use Rattle.laws.proofs.room.Digits as RoomDigits
use Rattle.laws.proofs.room.Asked as RoomAsked
use Rattle.laws.proofs.room.Blocks as RoomBlocks
use Rattle.laws.proofs.room.Blocks.{item_room, room_of, spans_of}
use Rattle.laws.proofs.room.Called as RoomCalled
use Rattle.laws.proofs.tables.Starred as Starred
use Rattle.laws.proofs.tables.Controls as Controls
use Rattle.laws.proofs.tables.Controls.{Program, Telling, WritesAt, ShutOut}
use Rattle.std.specs.Prelude.{Result, Ok, Err}
use Rattle.std.specs.Prelude.{Some, None}
use Rattle.meaning.specs.declared.IdentifierError.{IdentifierError}
use Rattle.meaning.specs.Answers.{packed_at}

-- THE ORDER, DEMAND 1
-- "Every question ends for every kind, span, source and buffer, with an answer or a numbered refusal from document 01, and asks no caller to have checked":
-- the contracts of `questions`, `helpers`, `writer` and `valdrabus`, proved of each function without a `requires`; the numbers are `meaning`, `Answers`.

-- "A refusal leaves the output buffer byte for byte as lent." `TextLeaves` and its like: as lent, unless text is written, which fills the buffer's start
module _ (l : Literal) (S out : List ℕ) where
  pub string_leaves : (σ : Settings) → TextLeaves out (string_question l S σ out).answer (string_question l S σ out).buffer
  string_leaves = Buffers.string_question_leaves l S out

  pub decimal_leaves : TextLeaves out (decimal_question l S out).answer (decimal_question l S out).buffer
  decimal_leaves = Buffers.decimal_question_leaves l S out

  pub bits_leaves : TextLeaves out (bits_question l S out).answer (bits_question l S out).buffer
  bits_leaves = Buffers.bits_question_leaves l S out

  pub temporal_leaves : TextLeaves out (temporal_question l S out).answer (temporal_question l S out).buffer
  temporal_leaves = Buffers.temporal_question_leaves l S out

pub identifier_leaves : (t out : List ℕ) → IdentifierLeaves out (identifier_question t out).answer (identifier_question t out).buffer
identifier_leaves = Buffers.identifier_leaves

pub writer_leaves : (σ : Settings) (size : PartSize) (v out : List ℕ)
    → WritingLeaves out (write_question σ size v out).answer (write_question σ size v out).buffer
writer_leaves = Buffers.writing_leaves

-- THE ORDER, DEMAND 2
-- "On valid UTF-8 the answer equals the Rust's": run beside the Rust (host/compare), not proved. "Escapes, quoting and UTF-8 are proved against definitions":
-- the contracts, from `leaves` to `valdrabus`, by `Meets`, `Reads` and `IsPart`.

-- "UTF-8 [..] RFC 3629": UTF-8 texts are the encodings of scalar values, each in one way
pub utf8_of_scalars : (cs : List ℕ) → AllScalar cs → utf8 (encodes cs) ≡ true
utf8_of_scalars = Sequences.utf8_of_scalars

pub scalars_of_utf8 : (t : List ℕ) → utf8 t ≡ true → (cs : List ℕ) × AllScalar cs × (t ≡ encodes cs)
scalars_of_utf8 = Sequences.scalars_of_utf8

pub encodes_unique : (cs ds : List ℕ) → encodes cs ≡ encodes ds → AllScalar cs → AllScalar ds → cs ≡ ds
encodes_unique = Sequences.encodes_unique

-- "What our writer writes reads back as its value at the same setting." In a span of any source; a text of but two bytes more than the value needs no room
pub writer_round_trip : (σ : Settings) (size : PartSize) (v out : List ℕ) (n : ℕ) → (write_question σ size v out).answer ≡ Ok n
    → (l : Literal) (S d : List ℕ) → is_string l.kind ≡ true → Spans l S (take n (write_question σ size v out).buffer)
    → (length v + 2 < n → length v ≤ length d) → Answered S v (string_question l S σ d)
writer_round_trip = RoundTrip.writer_round_trip

-- the same of what calls return, whatever their contracts permit; of the C exports: `valdrabus`, `Demands`
pub round_trip_calls : (σ : Settings) (size : PartSize) (v : List ℕ) (w : WriterCall σ size v) (n : ℕ) → w.result ≡ Ok n
    → (c : StringCall σ (take n w.after)) → (length v + 2 < n → length v ≤ length c.lent) → Shows c v
round_trip_calls = Calls.round_trip_calls

-- THE ORDER, DEMAND 3
-- "Take accepted string texts A and B, at one backslash setting, each cutting completely into segments, B beginning with a quote mark, at least one white-space
-- character between. If the whole fits a span and the buffer has room, it is accepted and means A's value followed by B's."
pub joining_law : (σ : Settings) (A G B v w : List ℕ) → Complete σ A v → Gap G → Complete σ B w → is_mark (B ! 0) ≡ true
    → (l : Literal) (S out : List ℕ) → is_string l.kind ≡ true → Spans l S (A ++ (G ++ B)) → length (v ++ w) ≤ length out
    → string_question l S σ out ≡ record { answer = Ok (Text.Written (length (v ++ w))); buffer = (v ++ w) ++ drop (length (v ++ w)) out }
joining_law = JoiningLaw.joining_law

pub joining_calls : (σ : Settings) (A G B v w : List ℕ) (a : StringCall σ A) (b : StringCall σ B) → Shows a v → Shows b w → complete σ A ≡ true
    → complete σ B ≡ true → Gap G → is_mark (B ! 0) ≡ true → (c : StringCall σ (A ++ (G ++ B))) → length (v ++ w) ≤ length c.lent → Shows c (v ++ w)
joining_calls = Calls.joining_calls

-- "A value our writer accepts, cut between any characters, each part written and the parts joined so at that setting, reads back whole under the same
-- condition." Of calls, too, and such calls are to be had
pub parts_law : (σ : Settings) (size : PartSize) (v : List ℕ) (p : Part) (xs : List Next) → Accepted σ size v → CutInto v p xs → WrittenParts.Each Sized p xs
    → (l : Literal) (S out : List ℕ) → is_string l.kind ≡ true → Spans l S (chain σ p xs)
    → (length v + 2 < length (chain σ p xs) → length v ≤ length out) → Answered S v (string_question l S σ out)
parts_law = WrittenParts.parts_law

pub parts_calls : (σ : Settings) (v : List ℕ) (p : Part) (xs : List Next) → all_of p xs ≡ v
    → (w : WrittenParts.Each (PartWritten σ) p xs) (c : StringCall σ (calls_chain σ p xs w))
    → (length v + 2 < length (calls_chain σ p xs w) → length v ≤ length c.lent) → Shows c v
parts_calls = Calls.parts_calls

pub parts_calls_write : (σ : Settings) (size : PartSize) (v : List ℕ) (p : Part) (xs : List Next) → Accepted σ size v → CutInto v p xs
    → WrittenParts.Each Sized p xs → WrittenParts.Each (Calls.Writes σ) p xs
parts_calls_write = Calls.parts_calls_write

-- DOCUMENT 01, WHAT IS CARRIED OVER
-- "Text is bytes here."
pub utf8_bytes : (t : List ℕ) → utf8 t ≡ true → (i : ℕ) → t ! i < 256
utf8_bytes = Utf8.utf8_bytes

-- "`source_text`, money and charset names are handed back as a part of the caller's own source", "proved to be that range": contracts of `questions`, `parts`
module _ (f u : ℕ) (lent r : Bor (List ℕ)) (h : IsPart (part_shown f u lent.now) (part_place f u lent) r) where
  pub shown_fits : f ≤ u → u ≤ length lent.now → IsPart (part f u lent.now) (lent.ref_ptr.0, lent.ref_ptr.1 + f) r
  shown_fits = Views.shown_fits f u lent r h

  -- "a range that doesn't fit its slice [..] shows an empty part"
  pub shown_none : (u < f) ⊎ (length lent.now < u) → IsPart [] lent.ref_ptr r
  shown_none = Views.shown_none f u lent r h

-- "ours says borrowed (start, end) or written (length), with one view": what is shown is what the text means, and what it means is shown
pub string_answered : (l : Literal) (S t v : List ℕ) (σ : Settings) (out : List ℕ) → is_string l.kind ≡ true → Spans l S t → Accepts σ t v
    → length v ≤ length out → Answered S v (string_question l S σ out)
string_answered = Ranges.string_answered

pub answered_accepts : (l : Literal) (S t : List ℕ) (σ : Settings) (out : List ℕ) → is_string l.kind ≡ true → Spans l S t
    → text_number (string_question l S σ out).answer ≡ 0 → Accepts σ t (shown S (string_question l S σ out).buffer (string_question l S σ out).answer)
answered_accepts = Accepting.answered_accepts

-- DOCUMENT 01, NUMBERS AN ANSWER CAN CARRY
-- "3: start > end, end > source length, or either cuts a character"
pub span_range : (s : Span) (S : List ℕ) → bad_span s S ≡ false → Bounds (length S) s.start s.end
span_range = Ranges.span_range

-- "A place cuts a character when [..] its byte is 80 to BF hex": where it is not, both sides are UTF-8; and back
pub utf8_cut : (i : ℕ) (t : List ℕ) → utf8 t ≡ true → within 0x80 0xBF (t ! i) ≡ false → (utf8 (take i t) ≡ true) × (utf8 (drop i t) ≡ true)
utf8_cut = Sequences.utf8_cut

pub utf8_uncut : (i : ℕ) (t : List ℕ) → utf8 (take i t) ≡ true → utf8 (drop i t) ≡ true → (utf8 t ≡ true) × (within 0x80 0xBF (t ! i) ≡ false)
utf8_uncut = Sequences.utf8_uncut

-- "4: text [..] not UTF-8"
pub string_not_utf8 : (l : Literal) (S t : List ℕ) (σ : Settings) (out : List ℕ) → is_string l.kind ≡ true → Spans l S t → utf8 t ≡ false
    → (string_question l S σ out).answer ≡ Err (NotUtf8 l.span)
string_not_utf8 = Asked.string_question_not_utf8

-- "12: value over 268,435,456 bytes, or part size below 4"
pub limit_length : (size : PartSize) (v : List ℕ) → over_limit size v ≡ false → length v ≤ 268435456
limit_length = WriterParts.limit_length

pub limit_size : (size : PartSize) (v : List ℕ) → over_limit size v ≡ false → part_too_small size ≡ false
limit_size = WriterParts.limit_size

-- "`as_bool` and `as_null` read no source and give only 0 or 1."
pub bool_number : (k : LiteralKind) → ZeroOrOne ((kind_code k ≡ 5) ⊎ (kind_code k ≡ 6)) (truth_number (bool_question k))
bool_number = OnlyKinds.bool_number

pub null_number : (k : LiteralKind) → ZeroOrOne (kind_code k ≡ 7) (nullness_number (null_question k))
null_number = OnlyKinds.null_number

-- "the two validators and `uescape_argument_is_legal` answer no on text that isn't UTF-8"
pub escape_valid_utf8 : (t : List ℕ) → escape_valid t ≡ true → utf8 t ≡ true
escape_valid_utf8 = HelpersUtf8.escape_valid_utf8

pub unicode_valid_utf8 : (t : List ℕ) → unicode_valid t ≡ true → utf8 t ≡ true
unicode_valid_utf8 = HelpersUtf8.unicode_valid_utf8

pub uescape_legal_utf8 : (t : List ℕ) → uescape_legal t ≡ true → utf8 t ≡ true
uescape_legal_utf8 = HelpersUtf8.uescape_legal_utf8

-- "Two sources in neither of which a span gives 3, agreeing inside it, get the same answers with the same buffer." Of calls: `Agreements`; of returned
-- slices: `AgreedParts`
module _ (l : Literal) (S S' : List ℕ) (a : Agree l S S') where
  pub string_same : (σ : Settings) (out : List ℕ) → string_question l S σ out ≡ string_question l S' σ out
  string_same = Sources.string_question_same l S S' a

  pub decimal_same : (out : List ℕ) → decimal_question l S out ≡ decimal_question l S' out
  decimal_same = Sources.decimal_question_same l S S' a

  pub bits_same : (out : List ℕ) → bits_question l S out ≡ bits_question l S' out
  bits_same = Sources.bits_question_same l S S' a

  pub temporal_same : (out : List ℕ) → temporal_question l S out ≡ temporal_question l S' out
  temporal_same = Sources.temporal_question_same l S S' a

  pub source_same : source_question l S ≡ source_question l S'
  source_same = Sources.source_question_same l S S' a

  pub money_same : money_question l S ≡ money_question l S'
  money_same = Sources.money_question_same l S S' a

  pub charset_same : charset_question l S ≡ charset_question l S'
  charset_same = Sources.charset_question_same l S S' a

  pub i64_same : i64_question l S ≡ i64_question l S'
  i64_same = Sources.i64_question_same l S S' a

-- DOCUMENT 01, CUTTING INTO SEGMENTS
-- "A segment opens with a quote mark [..], or with E, N, B, X or U& [..] before `'`, or with `_`, [..] then either mark." Its last byte is the mark
pub opening_mark : (t : List ℕ) (n : ℕ) → opening t ≡ suc n → is_mark (t ! n) ≡ true
opening_mark = Openings.opening_mark

-- "It closes at the next mark of its own that isn't doubled": what stands behind it changes nothing, unless it begins with a mark
pub segment_extend : (σ : Settings) (t r : List ℕ) (e : ℕ) → is_mark (r ! 0) ≡ false → segment σ t ≡ suc e → segment σ (t ++ r) ≡ suc e
segment_extend = Openings.segment_extend

-- "If what follows, past white space, begins with `'` or `\"`, cut to the end, [..] each segment is read alone [..]. A remainder that is no segment refuses."
pub cut_means : (σ : Settings) (t v : List ℕ) → continues σ t ≡ true
    → (meaning σ t ≡ means v)
    ↔ ((covered (cut σ t) ≡ true) × (vs : List (List ℕ)) × Values (meaning σ) (segments_of (cut σ t)) vs × (flatten vs ≡ v))
cut_means = Segments.cut_means

pub second_continues : (σ : Settings) (t s u : List ℕ) (ss : List (List ℕ)) → segments_of (cut σ t) ≡ s ∷ (u ∷ ss) → is_mark (u ! 0) ≡ true
    → continues σ t ≡ true
second_continues = Cuts.second_continues

-- "White space is Unicode White_Space", "skipped after every segment": it is UTF-8, and a byte that begins none ends it
pub white_utf8 : (g : List ℕ) → White g → utf8 g ≡ true
white_utf8 = WhiteUtf8.white_utf8

pub gap_append : (g : List ℕ) → White g → (c : ℕ) (t : List ℕ) → space (c ∷ t) ≡ 0 → gap (g ++ (c ∷ t)) ≡ length g
gap_append = Gaps.gap_append

-- "A text *cuts completely* if [..] segments, with or without white space between and after, cover it"
pub complete_covered : (σ : Settings) (t : List ℕ) → 2 ≤ length (segments_of (cut σ t)) → complete σ t ≡ covered (cut σ t)
complete_covered = Cuts.complete_covered

-- "For two or more complete segments, the second beginning with a quote mark, white space between each two and room in the buffer for all their values
-- together, the text is accepted exactly when each segment is accepted alone." Of any text that cuts so, and of given segments
pub complete_question : (σ : Settings) (t : List ℕ) → Several σ t → (l : Literal) (S out : List ℕ) → is_string l.kind ≡ true → Spans l S t
    → (text_number (string_question l S σ out).answer ≡ 0) ↔ AllAccepted σ (segments_of (cut σ t)) (length out)
complete_question = Segments.complete_question

pub segments_question : (σ : Settings) (s : List ℕ) (p : Further σ) (ps : List (Further σ)) (tail : List ℕ)
    → Whole σ s → White tail → is_mark (p.text ! 0) ≡ true
    → (l : Literal) (S out : List ℕ) → is_string l.kind ≡ true → Spans l S (strung s (p ∷ ps) tail)
    → (text_number (string_question l S σ out).answer ≡ 0) ↔ AllAccepted σ (segments s (p ∷ ps)) (length out)
segments_question = Strung.segments_question

-- DOCUMENT 01, ONE SEGMENT
-- The spellings and escapes are definitions, `Steps` and `Spelling`, that tables of answers are tested by: docs/DEFINITIONS names them row by row.
-- "The expansion must be UTF-8 (RFC 3629).": where it is, nothing is refused for it
pub checked_whole : (d : Due) (r : Trace) → stops r ≡ false → whole (pushes d (value r)) ≡ true → checked d r ≡ r
checked_whole = Courses.checked_whole

-- "Written exactly where [..] the body holds its mark or an active escape": a body that is borrowed stands for itself
pub walk_plain : (step : List ℕ → Step) (t : List ℕ) → T (plain (walk step 0 t)) → value (walk step 0 t) ≡ t
walk_plain = Walks.walk_plain

-- DOCUMENT 01, NUMBERS AND THE OTHER KINDS
-- "two 64-bit halves whose negation wraps, printed in at most 40 bytes"
pub negated_halves_lem : (z : ℤ) (hi lo : ℕ) → fits 127 z ≡ true → hi < 2 ^ 64 → lo < 2 ^ 64 → joined_halves hi lo ≡ bits_of z
    → joined_halves (negated_high hi lo) (negated_low lo) ≡ bits_of (neg_ℤ z)
negated_halves_lem = Halves.negated_halves_lem

pub text_of_printed : (z : ℤ) → fits 127 z ≡ true → text_of (bits_of z) ≡ printed z
text_of_printed = Halves.text_of_printed

pub printed_length : (z : ℤ) → fits 127 z ≡ true → length (printed z) ≤ 40
printed_length = Halves.printed_length

-- DOCUMENT 01, THE WRITER
-- "Doubles `'`. Setting on: doubles backslash, NUL becomes `\0`." The body that it writes has the value
pub spells_value : (bs : Bool) (v : List ℕ) → value (walk (standard_step bs quote) 0 (spells bs v)) ≡ v
spells_value = Written.spells_value

-- "With a part size it fills each part with as many whole characters as fit that many value bytes"
pub parts_from_portions : (w : ℕ) (v : List ℕ) → 4 ≤ w → utf8 v ≡ true → Portioned w v (parts_from w w v)
parts_from_portions = WriterParts.parts_from_portions

-- and how long the text is: two marks a part, a byte between each two, and one byte or two for each of the value
pub written_text_length : (σ : Settings) (size : PartSize) (v : List ℕ)
    → length (written_text σ size v) + 1 ≡ costs σ.backslash v + 3 * length (parts_of size v)
written_text_length = WriterText.written_text_length

-- what it accepts it writes, where there is room, and nothing else
pub writer_answers : (σ : Settings) (size : PartSize) (v out : List ℕ) → Accepted σ size v → length (written_text σ size v) ≤ length out
    → (write_question σ size v out).answer ≡ Ok (length (written_text σ size v))
writer_answers = RoundTrip.writer_answers

pub written_accepted : (σ : Settings) (size : PartSize) (v out : List ℕ) (n : ℕ) → (write_question σ size v out).answer ≡ Ok n → Accepted σ size v
written_accepted = RoundTrip.written_accepted

-- DOCUMENT 01, RECORD PROGRAM
-- "Empty input prints nothing." "One line a record." "the next record is still read": the contract of `litrec`, by these
pub output_none : output [] ≡ []
output_none = RecordOutput.output_none

pub output_first : (t : List ℕ) → 0 < length t → output t ≡ record_line (take 64 t) ++ output (drop 64 t)
output_first = RecordOutput.output_first

pub output_append : (k : ℕ) (a b : List ℕ) → length a ≡ 64 * k → output (a ++ b) ≡ output a ++ output b
output_append = RecordOutput.output_append

-- DOCUMENT 01, EXAMPLES, AND WHAT THE CONTRACTS OWE
-- "The starred examples are one table, proved by a single statement"
pub starred_hold : T (all Starred.starred)
starred_hold = Starred.starred_hold

-- "Each public function's contract determines its result and the final buffer on all inputs, [..] and two results it permits are proved equal": of a question,
-- of a reader of bare text, and of a slice that is returned; `valdrabus`, `Determined`, of the exports; `doubles`, `Theorems`, of the rows of a list
pub meets_unique : {A : Type 0} (o : Outcome A) (r r' : A) (d d' : List ℕ) → Meets o r d → Meets o r' d' → Same r r' d d'
meets_unique = Determined.meets_unique

pub reads_unique : (a : Answer) (out : List ℕ) (r r' : Result ReadText ReadRefusal) (d d' : List ℕ) → Reads a out r d → Reads a out r' d' → Same r r' d d'
reads_unique = Determined.reads_unique

pub part_unique : (v : List ℕ) (place : ℕ × ℕ) (r r' : Bor (List ℕ)) → IsPart v place r → IsPart v place r' → SamePart r r'
part_unique = Determined.part_unique

-- "Shut out": the five wrong programs, of every question that writes at some input; `ControlsOfAll` and `PackControls` have such an input of each question
pub shut_out : {X A : Type 0} {question : Program X A} {told : Telling X A} {x : X} {v : List ℕ} → WritesAt question told x v → ShutOut question told x v
shut_out = Controls.shut_out

-- "UTF-8 facts are proved once over sequence length"
pub encode_decodes : (c : ℕ) → is_scalar c ≡ true → Decodes c
encode_decodes = Encode.encode_decodes

-- "hex reading once over width", and over the base
pub digits_is : (β w : ℕ) (t : List ℕ) (n : ℕ) → n ≤ w → n ≤ length t → DigitsTo β n t → (n < w → n < length t → β ≤ digit (t ! n)) → digits β w t ≡ n
digits_is = Digits.digits_is

pub number_lt : (β n : ℕ) (t : List ℕ) → n ≤ length t → DigitsTo β n t → number β n 0 t < β ^ n
number_lt = Digits.number_lt

-- DOCUMENT 02, T-01
-- "What either writes reads back as the value, proved once over the two": E and U& literals, at every setting
pub form_round_trip : (f : Form) (v out : List ℕ) (n : ℕ) → (form_question f v out).answer ≡ Ok n → (σ : Settings) (l : Literal) (S d : List ℕ)
    → is_string l.kind ≡ true → Spans l S (take n (form_question f v out).buffer) → (length v + suc (length (form_opening f)) < n → length v ≤ length d)
    → Answered S v (string_question l S σ d)
form_round_trip = FormRoundTrip.form_round_trip

-- "Refusals: 12, 4, 11 (any NUL, at either setting), 9, in that order.": each whatever the later ones would say
module _ (f : Form) (v out : List ℕ) where
  pub form_limit : 268435456 < length v → form_question f v out ≡ record { answer = Err WritingError.OverLimit; buffer = out }
  form_limit = FormRoundTrip.form_limit f v out

  pub form_utf8 : length v ≤ 268435456 → utf8 v ≡ false → form_question f v out ≡ record { answer = Err WritingError.NotUtf8; buffer = out }
  form_utf8 = FormRoundTrip.form_utf8 f v out

  pub form_nul : length v ≤ 268435456 → utf8 v ≡ true → has 0 v ≡ true → form_question f v out ≡ record { answer = Err WritingError.HoldsNul; buffer = out }
  form_nul = FormRoundTrip.form_nul f v out

  pub form_room : FormAccepted v → length out < length (form_text f v)
      → form_question f v out ≡ record { answer = Err (WritingError.NoRoom (length (form_text f v))); buffer = out }
  form_room = FormRoundTrip.form_room f v out

  pub form_leaves : WritingLeaves out (form_question f v out).answer (form_question f v out).buffer
  form_leaves = Buffers.form_leaves f v out

-- DOCUMENT 02, T-02
-- "The writer now puts one LF. Reading and the joining law stay, LF being white space." (`ControlsOfAll.no_other_gap`: no writer that meets the contract puts
-- a space, CR LF, nothing, or an LF elsewhere)
pub between_white : White between
between_white = WriterText.between_white

-- DOCUMENT 02, T-03
-- "four per item": the items' answers, one for each, in a call that is answered (`Admitted`), and then the slice as lent
pub block_told_lem : (items S answers out : List ℕ) → Admitted items answers out
    → (block_call items S answers out).answers ≡ numbers_of (block_at S 0 out (items_of items)).fours ++ drop (length items) answers
block_told_lem = BlockCalls.call_answers

pub block_count : (S : List ℕ) (used : ℕ) (room : List ℕ) (is : List Item) → length (block_at S used room is).fours ≡ length is
block_count = BlockLaws.block_count

-- "a lent run of 32-bit numbers": 32 bits hold all that is told; what is written of a text is shorter than it by two bytes at least
pub block_fits : (items S answers out : List ℕ) → AllFit items → AllFit answers → AllFit (block_call items S answers out).answers
block_fits = Fits.call_fits

pub read_length : (σ : Settings) (t v : List ℕ) → read σ t ≡ written v → length v + 2 ≤ length t
read_length = Short.read_length

-- "Each item gets the answer of a single call with the room still left": the answer behind those of the items `is`, in the buffer's tail as lent, behind
-- `taken` bytes, as many as are told as written
module _ (S : List ℕ) (used : ℕ) (room : List ℕ) (is : List Item) (i : Item) (js : List Item) where
  pub block_item : (f : Four) → get_or (block_at S used room (is ++ (i ∷ js))).fours (length is) f ≡ (asked_behind S used room is i).told
  block_item = BlockLaws.block_four S used room is i js

  -- what is written for it is not touched by a later one
  pub block_bytes : part (taken S room is) (taken S room is + (asked_behind S used room is i).took) (block_at S used room (is ++ (i ∷ js))).buffer
      ≡ take (asked_behind S used room is i).took (asked_behind S used room is i).room
  block_bytes = BlockLaws.block_bytes S used room is i js

  -- "a refused item takes no room and stops nothing": without it the buffer is the same, and the answers are the others'
  pub block_out_buffer : (asked_behind S used room is i).took ≡ 0
      → (block_at S used room (is ++ (i ∷ js))).buffer ≡ (block_at S used room (is ++ js)).buffer
  block_out_buffer = BlockLaws.block_out_buffer S used room is i js

  pub block_out_fours : (asked_behind S used room is i).took ≡ 0
      → (block_at S used room (is ++ (i ∷ js))).fours
      ≡ take (length is) (block_at S used room (is ++ js)).fours
      ++ ((asked_behind S used room is i).told ∷ drop (length is) (block_at S used room (is ++ js)).fours)
  block_out_fours = BlockLaws.block_out_fours S used room is i js

module _ (S : List ℕ) (used : ℕ) (room : List ℕ) where
  pub block_room : (is : List Item) → taken S room is ≡ lengths_written (block_at S used room is).fours
  block_room = BlockLaws.block_room S used room

  pub block_append : (is js : List Item) → block_at S used room (is ++ js)
      ≡ blocks_joined (taken S room is) (block_at S used room is) (block_at S (used + taken S room is) (drop (taken S room is) room) js)
  block_append = BlockLaws.block_append S used room

  -- the buffer at the end: what is written, one after the other, and the rest as lent
  pub block_buffer : (is : List Item) → (block_at S used room is).buffer ≡ flatten (written_by S room is) ++ drop (taken S room is) room
  block_buffer = BlockLaws.block_buffer S used room

  pub item_known : (i : Item) → is_known i.kind 0 i.setting ≡ true → item_asked S used room i ≡ asked_as used (item_question S room i)
  item_known = Items.item_known S used room

  pub item_refused_took : (i : Item) → ((item_asked S used room i).told.number ≡ 0 → ⊥) → (item_asked S used room i).took ≡ 0
  item_refused_took = Items.item_refused_took S used room

  -- "10 for an unknown kind code or a setting other than 0 or 1, ahead of 1"
  pub item_unknown : (i : Item) → is_known i.kind 0 i.setting ≡ false
      → item_asked S used room i ≡ record { told = four 10 0 0 0; took = 0; room = room }
  item_unknown = Items.item_unknown S used room

-- a call of one item is the single question
pub block_one : (k g s e : ℕ) (S answers out : List ℕ) → is_known k 0 g ≡ true → 4 ≤ length answers → length out ≤ 4294967295
    → block_call (k ∷ (g ∷ (s ∷ (e ∷ [])))) S answers out
    ≡ record {
      number = 0;
      answers = numbers_of (four_of 0 (string_question (literal_of k 0 s e) S (settings_of g) out).answer ∷ []) ++ drop 4 answers;
      buffer = (string_question (literal_of k 0 s e) S (settings_of g) out).buffer;
    }
block_one = BlockCalls.call_one

-- the same of what calls return: an item's single call, in the room behind the bytes that are told as written before it, tells, writes and shows the same.
-- "A borrowed start is in the source, a written one in the buffer": `four_shown`
module _ (a : List ℕ) (k g s e : ℕ) (b S : List ℕ) (f : length a % 4 ≡ 0) (c : BlockCall (a ++ (k ∷ (g ∷ (s ∷ (e ∷ b))))) S) (z : c.result ≡ 0) where
  pub block_calls : is_known k 0 g ≡ true → (r : Result Text Refusal) (d : List ℕ)
      → Meets (string_question (literal_of k 0 s e) S (settings_of g) (drop (room_from c (length a)) c.lent)) r d → Returned c (length a) r d
  block_calls = BlockReturns.block_calls a k g s e b S f c z

  -- "a refused item takes no room and stops nothing": a call without it leaves the same buffer, and tells the same of the others
  pub block_calls_refused : (take 4 (drop (length a) c.told) ! 0 ≡ 0 → ⊥) → (v : BlockCall (a ++ b) S) → v.result ≡ 0 → v.lent ≡ c.lent
      → LeavesOut a b S c v
  block_calls_refused = BlockReturns.refused_out a k g s e b S f c z

  pub block_calls_unknown : is_known k 0 g ≡ false → take 4 (drop (length a) c.told) ≡ 10 ∷ 0 ∷ 0 ∷ 0 ∷ []
  block_calls_unknown = BlockReturns.block_calls_unknown a k g s e b S f c z

-- the buffer at the end: what is written, one after the other, and the rest as lent; of calls, too
pub block_written : (items S answers out : List ℕ) → Admitted items answers out
    → (block_call items S answers out).buffer ≡ flatten (written_by S out (items_of items)) ++ drop (taken S out (items_of items)) out
block_written = BlockCalls.call_written

pub written_calls : {items S : List ℕ} (c : BlockCall items S) → c.result ≡ 0
    → c.after ≡ flatten (written_by S c.lent (items_of items)) ++ drop (taken S c.lent (items_of items)) c.lent
written_calls = BlockReturns.calls_written

-- two calls, the second on what the first left of both slices, are the one call; of calls, too
pub block_split : (a b S answers out : List ℕ) → Admitted (a ++ b) answers out → length a % 4 ≡ 0
    → block_call (a ++ b) S answers out
    ≡ record {
      number = 0;
      answers =
          take (length a) (block_call a S answers out).answers
          ++ (moved_starts (taken S out (items_of a))
          (take (length b) (block_call b S (drop (length a) answers) (drop (taken S out (items_of a)) out)).answers)
          ++ drop (length b) (block_call b S (drop (length a) answers) (drop (taken S out (items_of a)) out)).answers);
      buffer =
          take (taken S out (items_of a)) (block_call a S answers out).buffer
          ++ (block_call b S (drop (length a) answers) (drop (taken S out (items_of a)) out)).buffer;
    }
block_split = BlockSplits.block_split

pub both_answered : (a b S answers out d : List ℕ) → (block_call a S answers out).number ≡ 0 → (block_call b S (drop (length a) answers) d).number ≡ 0
    → (block_call (a ++ b) S answers out).number ≡ 0
both_answered = BlockSplits.both_answered

pub split_calls : (a b S : List ℕ) → length a % 4 ≡ 0 → (w : BlockCall (a ++ b) S) → w.result ≡ 0 → (x : BlockCall a S) (y : BlockCall b S)
    → x.answers ≡ w.answers → x.lent ≡ w.lent → y.answers ≡ drop (length a) x.told
    → y.lent ≡ drop (room_from x (length a)) x.after → Splits a b S w x y
split_calls = BlockReturns.split_calls

-- "15 first, for the whole call with nothing written, if the input isn't in fours, the answer slice is shorter, or the output buffer is longer than
-- 4,294,967,295 bytes": exactly then, and else 0
pub block_number : (items S answers out : List ℕ) → ZeroOr15 (Admitted items answers out) (block_call items S answers out).number
block_number = BlockCalls.block_number

pub block_refused : (items answers out S : List ℕ) → bad_block items answers out ≡ true
    → block_call items S answers out ≡ record { number = 15; answers = answers; buffer = out }
block_refused = BlockCalls.call_bad

-- "Past the items the answer slice is unchanged", and so is the buffer past the bytes that are taken; neither is longer or shorter
pub block_leaves : (items S answers out : List ℕ) → BlockLeaves items S answers out (block_call items S answers out)
block_leaves = BlockCalls.block_leaves

-- two results that its contract permits are equal
pub blocks_unique : (o : BlockOutcome) (r r' : ℕ) (a a' d d' : List ℕ) → Blocks o r a d → Blocks o r' a' d' → SameBlock r r' a a' d d'
blocks_unique = Determined.blocks_unique

-- DOCUMENT 02, T-04
-- "Refusal 6 from reading a string shall carry a place": the question tells the definition's, beside the span, and leaves the buffer as lent; and where it
-- tells one, the text is refused there. `Answers.refusal_values`: the third value
module _ (l : Literal) (S t : List ℕ) (σ : Settings) (out : List ℕ) (k : is_string l.kind ≡ true) (h : Spans l S t) where
  pub place_told_lem : utf8 t ≡ true → (p : ℕ) → read σ t ≡ refused p → string_question l S σ out ≡ stopped_at l.span p out
  place_told_lem = PlaceTold.place_told_lem l S t σ out k h

  pub told_place : (sp : Span) (p : ℕ) → (string_question l S σ out).answer ≡ Err (InvalidString sp p)
      → (sp ≡ l.span) × (utf8 t ≡ true) × (read σ t ≡ refused p)
  told_place = PlaceTold.told_place l S t σ out k h

-- "counted from the text's start": inside the text, or 0 of the empty one; in UTF-8 text a character begins there
pub place_inside : (σ : Settings) (t : List ℕ) (p : ℕ) → read σ t ≡ refused p → PlaceIn t p
place_inside = PlaceWhole.read_inside

pub place_begins : (σ : Settings) (t : List ℕ) (p : ℕ) → utf8 t ≡ true → read σ t ≡ refused p → within 0x80 0xBF (t ! p) ≡ false
place_begins = PlaceWhole.read_begins

-- "In a segment it is the lone quote, or the escape's first character [..], at which reading from the left stops; for E text that becomes bad UTF-8, the
-- escape or raw character whose bytes broke it, or the body's end if a sequence is unfinished, whichever of all these comes first. A raw NUL or no spelling
-- gives the segment's start." Left of it reading goes through, in whole units and, in E text, by bytes that break nothing; there nothing goes on
pub place_stops : (σ : Settings) (t : List ℕ) (p : ℕ) → one σ t ≡ refused p
    → ((has 0 t ≡ true) × (p ≡ 0)) ⊎ ((has 0 t ≡ false) × StopsIn σ t (spelling t) p)
place_stops = Bodies.alone_stops

-- bytes that break nothing are those that UTF-8 text can begin with
pub front_completes : (t : List ℕ) → (pushes fresh t ≡ broken → ⊥) → (u : List ℕ) × (utf8 (t ++ u) ≡ true)
front_completes = Sequences.front_completes

pub utf8_front : (t u : List ℕ) → utf8 (t ++ u) ≡ true → pushes fresh t ≡ broken → ⊥
utf8_front = Sequences.utf8_front

pub standard_stop : (bs : Bool) (q b : ℕ) (r : List ℕ) → standard_step bs q (b ∷ r) ≡ stop → b ≡ q
standard_stop = Bodies.standard_stop

pub escape_stop : (b : ℕ) (r : List ℕ) → escape_step (b ∷ r) ≡ stop → (b ≡ backslash) ⊎ (b ≡ quote)
escape_stop = Bodies.escape_stop

pub unicode_stop : (e : List ℕ) (q b : ℕ) (r : List ℕ) → unicode_step e q (b ∷ r) ≡ stop → (b ≡ q) ⊎ (starts e (b ∷ r) ≡ true)
unicode_stop = Bodies.unicode_stop

-- "In joined text the segment's start is added, and the first refused segment counts": what stands left of it is accepted, and it is refused at q. "a remainder
-- that is no segment gives its own start." Of every text that continues, by its cut, with white space between its segments or none
module _ (σ : Settings) (t : List ℕ) (c : continues σ t ≡ true) (left : Trace) (vs : List (List ℕ)) (all : covered left ≡ true)
    (accepted : Values (alone σ) (segments_of left) vs) where
  pub cut_place : (n : ℕ) (s : List ℕ) (r : Trace) (q : ℕ) → cut σ t ≡ graft left (gave n s r) → alone σ s ≡ fails q → read σ t ≡ refused (size left + q)
  cut_place = PlaceJoined.cut_place σ t c left vs all accepted

  pub cut_remainder : cut σ t ≡ graft left stopped → read σ t ≡ refused (size left)
  cut_remainder = PlaceJoined.cut_remainder σ t c left vs all accepted

-- and of given segments with white space between: the first k accepted and the next refused at q gives their lengths with their gaps, plus q, whatever follows
pub joined_place : (σ : Settings) (s : List ℕ) (ps : List (Further σ)) (p : Further σ) (rest : List ℕ) (q : ℕ) → Whole σ s
    → Cuts.Each (Segments.Accepted σ) (segments s ps) → meaning σ p.text ≡ fails q → is_mark (rest ! 0) ≡ false
    → is_mark (second (ps ++ (p ∷ [])) rest ! 0) ≡ true
    → read σ (strung s (ps ++ (p ∷ [])) rest) ≡ refused (length (strung s ps p.gap) + q)
joined_place = PlaceJoined.joined_place

pub first_place : (σ : Settings) (s rest : List ℕ) (q : ℕ) → Whole σ s → meaning σ s ≡ fails q → is_mark (rest ! 0) ≡ false → is_mark (trim rest ! 0) ≡ true
    → read σ (s ++ rest) ≡ refused q
first_place = PlaceJoined.first_place

-- and where all are accepted, and no segment follows, the remainder's start
pub remainder_place : (σ : Settings) (s : List ℕ) (ps : List (Further σ)) (rest : List ℕ) → Whole σ s → Cuts.Each (Segments.Accepted σ) (segments s ps)
    → is_mark (rest ! 0) ≡ false → segment σ (trim rest) ≡ 0 → 0 < length (trim rest) → is_mark (second ps rest ! 0) ≡ true
    → read σ (strung s ps rest) ≡ refused (length (strung s ps []) + gap rest)
remainder_place = PlaceJoined.remainder_place

-- and back: a text that is refused is refused as one, or by a segment or a remainder, left of which the cut goes through and each segment is accepted
pub read_stops : (σ : Settings) (t : List ℕ) (p : ℕ) → read σ t ≡ refused p
    → ((continues σ t ≡ false) × (one σ t ≡ refused p)) ⊎ ((continues σ t ≡ true) × Refusing σ 0 t p)
read_stops = PlaceWhole.read_stops

-- "A temporal question adds its token's start, or gives 0 with no token"
module _ (σ : Settings) (t : List ℕ) where
  pub temporal_place : (f u q : ℕ) → temporal_token t ≡ token f u → read σ (part f u t) ≡ refused q → temporal σ t ≡ refused (f + q)
  temporal_place = PlaceTemporal.temporal_place σ t

  pub temporal_none : temporal_token t ≡ no_token → temporal σ t ≡ refused 0
  temporal_none = PlaceTemporal.temporal_none σ t

  pub temporal_inside : (p : ℕ) → temporal σ t ≡ refused p → PlaceIn t p
  temporal_inside = PlaceTemporal.temporal_inside σ t

  pub temporal_begins : (p : ℕ) → utf8 t ≡ true → temporal σ t ≡ refused p → within 0x80 0xBF (t ! p) ≡ false
  temporal_begins = PlaceTemporal.temporal_begins σ t

module _ (l : Literal) (S t out : List ℕ) (k : is_temporal l.kind ≡ true) (h : Spans l S t) where
  pub temporal_place_told : utf8 t ≡ true → (p : ℕ) → temporal off t ≡ refused p → temporal_question l S out ≡ stopped_at l.span p out
  temporal_place_told = PlaceTold.temporal_place_told l S t out k h

  pub temporal_told_place : (sp : Span) (p : ℕ) → (temporal_question l S out).answer ≡ Err (InvalidString sp p)
      → (sp ≡ l.span) × (utf8 t ≡ true) × (temporal off t ≡ refused p)
  temporal_told_place = PlaceTold.temporal_told_place l S t out k h

-- the same of what calls return; of the C exports: `valdrabus`, `PlaceExports`
pub place_calls : {σ : Settings} {t : List ℕ} (c : StringCall σ t) → utf8 t ≡ true → (p : ℕ) → read σ t ≡ refused p
    → (c.result ≡ Err (InvalidString c.literal.span p)) × (c.after ≡ c.lent)
place_calls = PlaceTold.place_calls

pub calls_place : {σ : Settings} {t : List ℕ} (c : StringCall σ t) (sp : Span) (p : ℕ) → c.result ≡ Err (InvalidString sp p)
    → (sp ≡ c.literal.span) × (utf8 t ≡ true) × (read σ t ≡ refused p)
calls_place = PlaceTold.calls_place

pub temporal_place_calls : {t : List ℕ} (c : TemporalCall t) → utf8 t ≡ true → (p : ℕ) → temporal off t ≡ refused p
    → (c.result ≡ Err (InvalidString c.literal.span p)) × (c.after ≡ c.lent)
temporal_place_calls = PlaceTold.temporal_place_calls

pub temporal_calls_place : {t : List ℕ} (c : TemporalCall t) (sp : Span) (p : ℕ) → c.result ≡ Err (InvalidString sp p)
    → (sp ≡ c.literal.span) × (utf8 t ≡ true) × (temporal off t ≡ refused p)
temporal_calls_place = PlaceTold.temporal_calls_place

-- calls on the first segments were answered (`Taken`), and the call on the next was refused at q
pub joined_place_calls : (σ : Settings) (s : List ℕ) (ps : List (Further σ)) (p : Further σ) (rest : List ℕ) → Whole σ s → Cuts.Each (Taken σ) (segments s ps)
    → (d : StringCall σ p.text) (sp : Span) (q : ℕ) → d.result ≡ Err (InvalidString sp q) → is_mark (rest ! 0) ≡ false
    → is_mark (second (ps ++ (p ∷ [])) rest ! 0) ≡ true → (c : StringCall σ (strung s (ps ++ (p ∷ [])) rest))
    → utf8 (strung s (ps ++ (p ∷ [])) rest) ≡ true
    → (c.result ≡ Err (InvalidString c.literal.span (length (strung s ps p.gap) + q))) × (c.after ≡ c.lent)
joined_place_calls = PlaceTold.joined_calls

pub remainder_place_calls : (σ : Settings) (s : List ℕ) (ps : List (Further σ)) (rest : List ℕ) → Whole σ s → Cuts.Each (Taken σ) (segments s ps)
    → is_mark (rest ! 0) ≡ false → segment σ (trim rest) ≡ 0 → 0 < length (trim rest) → is_mark (second ps rest ! 0) ≡ true
    → (c : StringCall σ (strung s ps rest)) → utf8 (strung s ps rest) ≡ true
    → (c.result ≡ Err (InvalidString c.literal.span (length (strung s ps []) + gap rest))) × (c.after ≡ c.lent)
remainder_place_calls = PlaceTold.remainder_calls

-- "T-03 puts the place in its start field": of an item of a block call that is answered
pub block_place_calls : (a : List ℕ) (k g s e : ℕ) (b S : List ℕ) (f : length a % 4 ≡ 0) (c : BlockCall (a ++ (k ∷ (g ∷ (s ∷ (e ∷ b))))) S) → c.result ≡ 0
    → is_known k 0 g ≡ true → is_string (literal_of k 0 s e).kind ≡ true → (t : List ℕ) → Spans (literal_of k 0 s e) S t → utf8 t ≡ true
    → (p : ℕ) → read (settings_of g) t ≡ refused p → take 4 (drop (length a) c.told) ≡ 6 ∷ 0 ∷ p ∷ 0 ∷ []
block_place_calls = PlaceTold.block_place_calls

pub block_calls_place : (a : List ℕ) (k g s e : ℕ) (b S : List ℕ) (f : length a % 4 ≡ 0) (c : BlockCall (a ++ (k ∷ (g ∷ (s ∷ (e ∷ b))))) S) → c.result ≡ 0
    → is_known k 0 g ≡ true → is_string (literal_of k 0 s e).kind ≡ true → (t : List ℕ) → Spans (literal_of k 0 s e) S t → (how p len : ℕ)
    → take 4 (drop (length a) c.told) ≡ 6 ∷ how ∷ p ∷ len ∷ [] → (utf8 t ≡ true) × (read (settings_of g) t ≡ refused p)
block_calls_place = PlaceTold.block_calls_place

-- DOCUMENT 02, T-05
-- "Day 1 is 0001-01-01; 9999-12-31 is 3652059."
pub first_day : day_number 1 1 1 ≡ 1
first_day = Calendar.first_day

pub last_day_lem : day_number 9999 12 31 ≡ last_day
last_day_lem = Calendar.last_day_lem

-- "Prove that later dates have larger numbers": by year, then month, then day, both ways
module _ (y m d y' m' d' : ℕ) (a : is_day y m d ≡ true) (b : is_day y' m' d' ≡ true) where
  pub later_larger : Earlier y m d y' m' d' → day_number y m d < day_number y' m' d'
  later_larger = Calendar.later_larger y m d y' m' d' a b

  pub larger_later : day_number y m d < day_number y' m' d' → Earlier y m d y' m' d'
  larger_later = Calendar.larger_later y m d y' m' d' a b

-- and so are their ten bytes, byte by byte
pub earlier_below : (y m d y' m' d' : ℕ) → is_day y m d ≡ true → is_day y' m' d' ≡ true
    → Earlier y m d y' m' d' ↔ (bytes_below (spelled_day y m d) (spelled_day y' m' d') ≡ true)
earlier_below = DateOrdered.earlier_below

-- the next day's is one more: in a month, behind a month, behind a year
pub next_day : (y m d : ℕ) → is_day y m d ≡ true → d < month_length y m → (is_day y m (suc d) ≡ true) × (day_number y m (suc d) ≡ suc (day_number y m d))
next_day = Calendar.next_day

pub next_month : (y m : ℕ) → is_day y m (month_length y m) ≡ true → m < 12
    → (is_day y (suc m) 1 ≡ true) × (day_number y (suc m) 1 ≡ suc (day_number y m (month_length y m)))
next_month = Calendar.next_month

pub next_year : (y : ℕ) → is_day y 12 31 ≡ true → y < 9999 → (is_day (suc y) 1 1 ≡ true) × (day_number (suc y) 1 1 ≡ suc (day_number y 12 31))
next_year = Calendar.next_year

-- "and that the number gives the date back": for every day, and every number from 1 to 3652059 is one day's
pub number_back : (y m d : ℕ) → is_day y m d ≡ true → date_of (day_number y m d) ≡ calendar_day y m d
number_back = Calendar.number_back

pub number_within : (y m d : ℕ) → is_day y m d ≡ true → (1 ≤ day_number y m d) × (day_number y m d ≤ last_day)
number_within = Calendar.number_within

pub back_number : (n : ℕ) → 1 ≤ n → n ≤ last_day
    → (is_day (date_of n).year (date_of n).month (date_of n).day ≡ true) × (day_number (date_of n).year (date_of n).month (date_of n).day ≡ n)
    × ((date_of n).number ≡ n)
back_number = Calendar.back_number

pub number_found : (n : ℕ) → 1 ≤ n → n ≤ last_day → day_question n ≡ Some (date_of n)
number_found = Calendar.day_found

pub number_outside : (n : ℕ) → (n ≡ 0) ⊎ (last_day < n) → day_question n ≡ None
number_outside = Calendar.day_outside

-- "exactly ten bytes, yyyy-mm-dd, years 0001 to 9999": a value is a date exactly if it is the ten bytes of a day
pub spelled_date : (y m d : ℕ) → is_day y m d ≡ true → day_in (spelled_day y m d) ≡ Some (calendar_day y m d)
spelled_date = DateSpelt.spelled_date

pub date_spelled : (v : List ℕ) (c : CalendarDay) → day_in v ≡ Some c
    → (is_day c.year c.month c.day ≡ true) × (v ≡ spelled_day c.year c.month c.day) × (c ≡ calendar_day c.year c.month c.day)
date_spelled = DateSpelt.date_spelled

-- "For Date literals, answer year, month, day and a day number, from the decoded value [..] then 14 for a value that is no such date"
module _ (l : Literal) (S t : List ℕ) (k : is_date_kind l.kind ≡ true) (h : Spans l S t) (u : utf8 t ≡ true) where
  pub date_on : (c : CalendarDay) → (date_question l S ≡ Ok c) ↔ DayOf t c
  date_on = DateAsked.date_on l S t k h u

  pub date_fourteen : (sp : Span)
      → (date_question l S ≡ Err (InvalidDate sp))
      ↔ ((sp ≡ l.span) × (v : List ℕ) × (value_of t (temporal off t) ≡ means v) × (is_date v ≡ false))
  date_fourteen = DateAsked.date_fourteen l S t k h u

-- "Refusals: 1 (kind not Date), 2, 3, 4, 6, then 14": no other; 2 to 6 where the temporal question gives them, whatever buffer it is lent, at the same place
pub date_wrong_kind : (l : Literal) (S : List ℕ) → is_date_kind l.kind ≡ false → date_question l S ≡ Err (WrongKind Expected.Date l.kind)
date_wrong_kind = DateAsked.date_wrong_kind

pub date_numbers_lem : (l : Literal) (S : List ℕ) → has (dated_number (date_question l S)) date_numbers ≡ true
date_numbers_lem = DateAsked.date_numbers_lem

module _ (l : Literal) (S out : List ℕ) (k : is_date_kind l.kind ≡ true) where
  pub date_shared : (r : Refusal) → refusal_number r ≤ 8 → (date_question l S ≡ Err r) ↔ ((temporal_question l S out).answer ≡ Err r)
  date_shared = DateAsked.date_shared l S out k

  pub date_six : (sp : Span) (p : ℕ)
      → (date_question l S ≡ Err (InvalidString sp p)) ↔ ((temporal_question l S out).answer ≡ Err (InvalidString sp p))
  date_six = DateAsked.date_six l S out k

  pub date_shown : text_number (temporal_question l S out).answer ≡ 0
      → date_question l S ≡ dated_on l.span (day_in (shown S (temporal_question l S out).buffer (temporal_question l S out).answer))
  date_shown = DateAsked.date_temporal_shown l S out k

-- "Joined segments count as one value": the same value gives the same day, and a token that is joined has the joined value
pub date_same_value : (l l' : Literal) (S S' t t' : List ℕ) → is_date_kind l.kind ≡ true → is_date_kind l'.kind ≡ true → Spans l S t → Spans l' S' t'
    → utf8 t ≡ true → utf8 t' ≡ true → value_of t (temporal off t) ≡ value_of t' (temporal off t') → (c : CalendarDay)
    → (date_question l S ≡ Ok c) ↔ (date_question l' S' ≡ Ok c)
date_same_value = DateAsked.date_same_value

pub date_joined : (t : List ℕ) (f u : ℕ) (A G B v w : List ℕ) → temporal_token t ≡ token f u → part f u t ≡ A ++ (G ++ B) → Complete off A v → Gap G
    → Complete off B w → is_mark (B ! 0) ≡ true → (l : Literal) (S : List ℕ) → is_date_kind l.kind ≡ true → Spans l S t → utf8 t ≡ true
    → date_question l S ≡ dated_on l.span (day_in (v ++ w))
date_joined = DateJoined.date_joined

pub date_same_day : (w a g b : List ℕ) → TwoOf w a g b → (l l' : Literal) (S S' : List ℕ) → is_date_kind l.kind ≡ true → is_date_kind l'.kind ≡ true
    → Spans l S (w ++ (quoted a ++ (g ++ quoted b))) → Spans l' S' (w ++ quoted (a ++ b)) → utf8 (w ++ (quoted a ++ (g ++ quoted b))) ≡ true
    → utf8 (w ++ quoted (a ++ b)) ≡ true → (c : CalendarDay) → (date_question l S ≡ Ok c) ↔ (date_question l' S' ≡ Ok c)
date_same_day = DateJoined.same_day

-- two sources in neither of which the span gives 3, agreeing inside it, get the same answer
pub date_sources : (l : Literal) (S S' : List ℕ) → Agree l S S' → date_question l S ≡ date_question l S'
date_sources = Sources.date_question_same

-- the same of what calls return; of the C exports: `valdrabus`, `DateExports`
module _ {t : List ℕ} (a : DateCall t) (u : utf8 t ≡ true) where
  pub on_calls : (c : CalendarDay) → (a.result ≡ Ok c) ↔ DayOf t c
  on_calls = DateCalled.on_calls a u

  pub fourteen_calls : (sp : Span)
      → (a.result ≡ Err (InvalidDate sp))
      ↔ ((sp ≡ a.literal.span) × (v : List ℕ) × (value_of t (temporal off t) ≡ means v) × (is_date v ≡ false))
  fourteen_calls = DateCalled.fourteen_calls a u

pub order_calls : (l l' : Literal) (S S' : List ℕ) (r r' : Result CalendarDay Refusal) → r ≡ date_question l S → r' ≡ date_question l' S' → (c d : CalendarDay) → r ≡ Ok c
    → r' ≡ Ok d → Earlier c.year c.month c.day d.year d.month d.day ↔ (c.number < d.number)
order_calls = DateCalled.order_calls

pub back_calls : (l : Literal) (S : List ℕ) (r : Result CalendarDay Refusal) → r ≡ date_question l S → (c : CalendarDay) → r ≡ Ok c → (a : DayCall c.number)
    → a.result ≡ Some c
back_calls = DateCalled.back_calls

pub number_calls : {n : ℕ} (a : DayCall n) → 1 ≤ n → n ≤ last_day
    → (a.result ≡ Some (date_of n)) × (is_day (date_of n).year (date_of n).month (date_of n).day ≡ true)
    × (day_number (date_of n).year (date_of n).month (date_of n).day ≡ n)
number_calls = DateCalled.number_calls

pub outside_calls : {n : ℕ} (a : DayCall n) → (n ≡ 0) ⊎ (last_day < n) → a.result ≡ None
outside_calls = DateCalled.outside_calls

pub six_calls : {t : List ℕ} (a : DateCall t) (lent : List ℕ) (r : Result Text Refusal) (after : List ℕ)
    → Meets (temporal_question a.literal a.source lent) r after → (sp : Span) (p : ℕ)
    → (a.result ≡ Err (InvalidString sp p)) ↔ (r ≡ Err (InvalidString sp p))
six_calls = DateCalled.six_calls

pub shown_calls : {t : List ℕ} (a : DateCall t) (lent : List ℕ) (r : Result Text Refusal) (after : List ℕ)
    → Meets (temporal_question a.literal a.source lent) r after → text_number r ≡ 0
    → a.result ≡ dated_on a.literal.span (day_in (shown a.source after r))
shown_calls = DateCalled.shown_calls

pub joined_date_calls : (w a g b : List ℕ) → TwoOf w a g b → (x : DateCall (w ++ (quoted a ++ (g ++ quoted b)))) (y : DateCall (w ++ quoted (a ++ b)))
    → utf8 (w ++ (quoted a ++ (g ++ quoted b))) ≡ true → utf8 (w ++ quoted (a ++ b)) ≡ true
    → (c : CalendarDay) → (x.result ≡ Ok c) ↔ (y.result ≡ Ok c)
joined_date_calls = DateCalled.joined_calls

-- DOCUMENT 02, T-07
-- "Answer a bit string's packed bytes and bit count": of a UTF-8 text that means digits, as many bytes as they need, and where the buffer is shorter "the needed
-- length in 9 counting packed bytes"; and what is answered is so (`PackedAs`)
module _ (r : BitStringRadix) (l : Literal) (S t out : List ℕ) (k : l.kind ≡ Kind.BitString r) (h : Spans l S t) where
  pub packed_room : utf8 t ≡ true → (v : List ℕ) → value_of t (bits off (2 ^ radix_bits r) t) ≡ means v → packed_length (radix_bits r * length v) ≤ length out
      → (packed_question l S out).answer ≡ Ok (packed_at (packed_length (radix_bits r * length v)) (radix_bits r * length v))
  packed_room = PackAsked.packed_room r l S t out k h

  pub packed_short : utf8 t ≡ true → (v : List ℕ) → value_of t (bits off (2 ^ radix_bits r) t) ≡ means v → length out < packed_length (radix_bits r * length v)
      → packed_question l S out ≡ record { answer = Err (NoRoom (packed_length (radix_bits r * length v))); buffer = out }
  packed_short = PackAsked.packed_short r l S t out k h

  pub packed_written : (len n : ℕ) → (packed_question l S out).answer ≡ Ok (packed_at len n) → PackedAs r t out len n (packed_question l S out).buffer
  packed_written = PackAsked.packed_written r l S t out k h

-- "A binary digit is one bit, a hex digit four; the first bit is the top bit of the first byte; unused low bits of the last byte are zero": the packed bytes'
-- bits, the top one first, are the digits' bits and then fewer than eight zeros
module _ {r : BitStringRadix} {t out : List ℕ} {len n : ℕ} {after : List ℕ} (a : PackedAs r t out len n after) where
  pub packed_count : n ≡ radix_bits r * length a.value
  packed_count = PackAsked.packed_count a

  pub packed_length_lem : len ≡ packed_length n
  packed_length_lem = PackAsked.packed_length_lem a

  pub packed_bits : (spread 8 (take len after) ≡ bits_in (radix_bits r) a.value ++ replicate (8 * len - n) 0) × (8 * len - n < 8)
  packed_bits = PackAsked.packed_bits a

-- bits as numbers and numbers as bits, once over the width: each undoes the other
pub gather_spread : (w : ℕ) → 0 < w → (ns : List ℕ) → Below (2 ^ w) ns → gather w (spread w ns) ≡ ns
gather_spread = Gathered.gather_spread

pub spread_gather : (w : ℕ) → 0 < w → (t : List ℕ) → Below 2 t → spread w (gather w t) ≡ t ++ replicate (w * units w (length t) - length t) 0
spread_gather = Gathered.spread_gather

-- segments run on: joined segments are packed as the one that holds all their digits
pub packed_joined : (r : BitStringRadix) (ds : List ℕ) → DigitsTo (2 ^ radix_bits r) (length ds) ds → (ps : List (Run (2 ^ radix_bits r))) (tail : List ℕ)
    → White tail → (l : Literal) (S out : List ℕ) → l.kind ≡ Kind.BitString r → Spans l S (bit_text r ds ++ runs ps tail)
    → (l' : Literal) (S' : List ℕ) → l'.kind ≡ Kind.BitString r → Spans l' S' (bit_text r (ds ++ run_digits ps))
    → packed_question l S out ≡ packed_question l' S' out
packed_joined = PackJoined.packed_joined

-- "Add the reverse, bytes and a bit count to a B or X literal, X only when the count is a multiple of four": what is written, and how long it is
module _ (r : BitStringRadix) (bytes : List ℕ) (n : ℕ) (out : List ℕ) (m : ℕ) (e : (bit_write_question r bytes n out).answer ≡ Ok m) where
  pub bit_accepted : (length bytes ≤ 268435456) × Fine r bytes n × (m ≡ length (bit_literal r bytes n)) × (m ≤ length out)
  bit_accepted = PackReverse.bit_accepted r bytes n out m e

  pub bit_written : (bit_write_question r bytes n out).buffer ≡ bit_literal r bytes n ++ drop m out
  bit_written = PackReverse.bit_written r bytes n out m e

pub bit_literal_length : (r : BitStringRadix) (bytes : List ℕ) (n : ℕ) → Fine r bytes n → length (bit_literal r bytes n) ≡ n / radix_bits r + 3
bit_literal_length = PackReverse.bit_literal_length

-- 32 bits hold it: no more than 2,147,483,651 bytes of B and 536,870,915 of X, and `Long` has bytes that need as many
pub bit_literal_most : (r : BitStringRadix) (bytes : List ℕ) (n : ℕ) → length bytes ≤ 268435456 → Fine r bytes n
    → radix_bits r * length (bit_literal r bytes n) ≤ 2147483648 + radix_bits r * 3
bit_literal_most = PackLong.bit_literal_most

-- "Digits are written in upper case": a literal of just one segment, in upper case, with its kind's letter
pub bit_literal_one : (r : BitStringRadix) (bytes : List ℕ) (n : ℕ) → OneUpper r (bit_literal r bytes n)
bit_literal_one = PackRoundTrip.written_one

-- "bytes and count come back through either literal, read with the kind of its letter". Bytes are numbers below 256, as lent bytes are
pub bytes_round_trip : (r : BitStringRadix) (bytes : List ℕ) (n : ℕ) (out : List ℕ) (m : ℕ) → ((i : ℕ) → bytes ! i < 256)
    → (bit_write_question r bytes n out).answer ≡ Ok m
    → (l : Literal) (S d : List ℕ) → l.kind ≡ Kind.BitString r → Spans l S (take m (bit_write_question r bytes n out).buffer) → length bytes ≤ length d
    → packed_question l S d ≡ record { answer = Ok (packed_at (length bytes) n); buffer = bytes ++ drop (length bytes) d }
bytes_round_trip = PackRoundTrip.bytes_round_trip

-- "a literal of just one segment, with an upper-case letter equal to its kind, upper-case digits and packed bytes within the limit, comes back as it was". Its
-- text is the segment; each of these premises is needed: `PackControls`
pub literal_round_trip : (r : BitStringRadix) (l : Literal) (S t d : List ℕ) (len n : ℕ) → l.kind ≡ Kind.BitString r → Spans l S t → OneUpper r t
    → (packed_question l S d).answer ≡ Ok (packed_at len n) → len ≤ 268435456 → (e : List ℕ) → length t ≤ length e
    → bit_write_question r (take len (packed_question l S d).buffer) n e
    ≡ record { answer = Ok (length t); buffer = t ++ drop (length t) e }
literal_round_trip = PackRoundTrip.literal_round_trip

-- every answer of packing is one that the reverse takes: none gives 16
pub packed_fine : {r : BitStringRadix} {t out : List ℕ} {len n : ℕ} {after : List ℕ} → PackedAs r t out len n after → Fine r (take len after) n
packed_fine = PackRoundTrip.packed_fine

-- "Refusals: packing as for bits": 1 to 7 exactly where the bits question gives them, whatever buffers the two are lent; and what that shows is packed
module _ (l : Literal) (S out out' : List ℕ) where
  pub packed_refuses : (r : Refusal) → refusal_number r ≤ 8
      → ((packed_question l S out).answer ≡ Err r) ↔ ((bits_question l S out').answer ≡ Err r)
  packed_refuses = PackAsked.packed_refuses l S out out'

  pub packed_shown_lem : text_number (bits_question l S out').answer ≡ 0
      → packed_question l S out
      ≡ packs_as l.span (bits_per (bit_base l.kind)) out (means (shown S (bits_question l S out').buffer (bits_question l S out').answer))
  packed_shown_lem = PackAsked.packed_shown_lem l S out out'

pub packed_numbers_lem : (l : Literal) (S out : List ℕ) → has (packed_number (packed_question l S out).answer) packed_numbers ≡ true
packed_numbers_lem = PackAsked.packed_numbers_lem

-- "reverse 12, then 16 if the byte count isn't the bit count rounded up to bytes, X has a wrong count, or an unused bit is set, then 9". "The reverse's limit is
-- the writer's, in packed bytes": in those given. What each answer says, and each test where those before it pass
pub bit_answers : (r : BitStringRadix) (bytes : List ℕ) (n : ℕ) (out : List ℕ) → Answers r bytes n out (bit_write_question r bytes n out).answer
bit_answers = PackReverse.bit_answers

pub bit_fine : (r : BitStringRadix) (bytes : List ℕ) (n : ℕ) → (bad_bits r bytes n ≡ false) ↔ Fine r bytes n
bit_fine = PackReverse.fine_bits

module _ (r : BitStringRadix) (bytes : List ℕ) (n : ℕ) (out : List ℕ) where
  pub bit_over : 268435456 < length bytes → bit_write_question r bytes n out ≡ record { answer = Err BitWritingError.OverLimit; buffer = out }
  bit_over = PackReverse.bit_over r bytes n out

  pub bit_bad : length bytes ≤ 268435456 → bad_bits r bytes n ≡ true → bit_write_question r bytes n out ≡ record { answer = Err BitWritingError.BadBits; buffer = out }
  bit_bad = PackReverse.bit_bad r bytes n out

  pub bit_writes_lem : length bytes ≤ 268435456 → Fine r bytes n → bit_write_question r bytes n out ≡ bit_writes (bit_literal r bytes n) out
  bit_writes_lem = PackReverse.bit_writes_lem r bytes n out

  pub bit_numbers : has (bit_writing_number (bit_write_question r bytes n out).answer) reverse_numbers ≡ true
  bit_numbers = PackReverse.bit_numbers r bytes n out

-- refusals leave the buffer as lent; two sources in neither of which the span gives 3, agreeing inside it, get the same answer with the same buffer
pub packed_leaves : (l : Literal) (S out : List ℕ) → PackedLeaves out (packed_question l S out).answer (packed_question l S out).buffer
packed_leaves = Buffers.packed_leaves

pub bit_writing_leaves : (r : BitStringRadix) (bytes : List ℕ) (n : ℕ) (out : List ℕ)
    → BitWritingLeaves out (bit_write_question r bytes n out).answer (bit_write_question r bytes n out).buffer
bit_writing_leaves = Buffers.bit_writing_leaves

pub packed_sources : (l : Literal) (S S' : List ℕ) → Agree l S S' → (out : List ℕ) → packed_question l S out ≡ packed_question l S' out
packed_sources = Sources.packed_question_same

-- the same of what calls return, whatever their contracts permit
pub bytes_calls : (r : BitStringRadix) (bytes : List ℕ) (n : ℕ) → ((i : ℕ) → bytes ! i < 256) → (w : BitWriterCall r bytes n) (m : ℕ)
    → w.result ≡ Ok m → (c : PackedCall r (take m w.after)) → length bytes ≤ length c.lent
    → (c.result ≡ Ok (packed_at (length bytes) n)) × (c.after ≡ bytes ++ drop (length bytes) c.lent)
bytes_calls = PackCalled.bytes_calls

pub literal_calls : (r : BitStringRadix) (t : List ℕ) → OneUpper r t → (c : PackedCall r t) (len n : ℕ) → c.result ≡ Ok (packed_at len n)
    → len ≤ 268435456 → (w : BitWriterCall r (take len c.after) n) → length t ≤ length w.lent
    → (w.result ≡ Ok (length t)) × (w.after ≡ t ++ drop (length t) w.lent)
literal_calls = PackCalled.literal_calls

pub packed_calls : {r : BitStringRadix} {t : List ℕ} (c : PackedCall r t) (len n : ℕ) → c.result ≡ Ok (packed_at len n)
    → PackedAs r t c.lent len n c.after
packed_calls = PackCalled.packed_calls

module _ {r : BitStringRadix} {t : List ℕ} (c : PackedCall r t) (lent : List ℕ) (x : Result Text Refusal) (after : List ℕ)
    (m : Meets (bits_question c.literal c.source lent) x after) where
  pub packed_refuses_calls : (q : Refusal) → refusal_number q ≤ 8 → (c.result ≡ Err q) ↔ (x ≡ Err q)
  packed_refuses_calls = PackCalled.refuses_calls c lent x after m

  pub packed_shown_calls : text_number x ≡ 0
      → Meets (packs_as c.literal.span (radix_bits r) c.lent (means (shown c.source after x))) c.result c.after
  packed_shown_calls = PackCalled.shown_calls c lent x after m

pub packed_joined_calls : (r : BitStringRadix) (ds : List ℕ) → DigitsTo (2 ^ radix_bits r) (length ds) ds → (ps : List (Run (2 ^ radix_bits r))) (tail : List ℕ)
    → White tail → (x : PackedCall r (bit_text r ds ++ runs ps tail)) (y : PackedCall r (bit_text r (ds ++ run_digits ps))) → x.lent ≡ y.lent
    → Same x.result y.result x.after y.after
packed_joined_calls = PackCalled.run_calls

-- ROOM
-- A string's value is never longer than its text less two bytes: in either mark, N, a charset's, E, U&, dollar, joined; at every setting, UTF-8 or not.
-- (`RoomWitnesses`: a text of every spelling; and that no bound on a value can be lower, nor the room of a string, a block or packed bits, nor a number's 40 bytes)
pub room : (σ : Settings) (t v : List ℕ) → meaning σ t ≡ means v → length v + 2 ≤ length t
room = Short.meaning_length

-- so 9 tells a length that the span holds with two bytes more; a buffer of the span's length less two never gets a 9, and every accepted text is shown there
module _ (l : Literal) (S : List ℕ) (out : List ℕ) (σ : Settings) where
  pub room_string_nine : (n : ℕ) → (string_question l S σ out).answer ≡ Err (NoRoom n) → (n + 2 ≤ spanned l) × (length out < n)
  room_string_nine = RoomAsked.string_nine l S out σ

  pub room_string : spanned l ≤ length out + 2 → text_number (string_question l S σ out).answer ≡ 9 → ⊥
  room_string = RoomAsked.string_never l S out σ

pub room_string_shows : (l : Literal) (S t v : List ℕ) (σ : Settings) (out : List ℕ) → is_string l.kind ≡ true → Spans l S t → Accepts σ t v
    → length t ≤ length out + 2 → Answered S v (string_question l S σ out)
room_string_shows = RoomAsked.string_enough

-- a temporal text's value is a string's in a part of the text
pub room_temporal_value : (σ : Settings) (t v : List ℕ) → value_of t (temporal σ t) ≡ means v → length v + 2 ≤ length t
room_temporal_value = RoomValues.temporal_length

module _ (l : Literal) (S : List ℕ) (out : List ℕ) where
  pub room_temporal_nine : (n : ℕ) → (temporal_question l S out).answer ≡ Err (NoRoom n) → (n + 2 ≤ spanned l) × (length out < n)
  room_temporal_nine = RoomAsked.temporal_nine l S out

  pub room_temporal : spanned l ≤ length out + 2 → text_number (temporal_question l S out).answer ≡ 9 → ⊥
  room_temporal = RoomAsked.temporal_never l S out

-- a block: behind the items `is` no more than their spans, each less two bytes, is taken (`room_of`); so in a buffer as long as all of these no item gets a 9
module _ (S : List ℕ) (used : ℕ) (room : List ℕ) (is : List Item) (i : Item) where
  pub room_block_nine : (asked_behind S used room is i).told.number ≡ 9 → (asked_behind S used room is i).told.len + 2 ≤ i.end - i.start
  room_block_nine = RoomBlocks.block_nine S (used + taken S room is) room is i

  pub room_block : room_of is + item_room i ≤ length room → (asked_behind S used room is i).told.number ≡ 9 → ⊥
  room_block = RoomBlocks.block_never S (used + taken S room is) room is i

pub room_taken : (S room : List ℕ) (is : List Item) → taken S room is ≤ room_of is
room_taken = RoomBlocks.taken_room

-- which is no more than the spans together
pub room_spans : (is : List Item) → room_of is ≤ spans_of is
room_spans = RoomBlocks.room_spans

-- an identifier's value: four bytes less, U& and two marks
pub room_identifier_value : (t v : List ℕ) → value_of t (ident t) ≡ means v → length v + 4 ≤ length t
room_identifier_value = RoomValues.ident_length

pub room_identifier : (t out : List ℕ) → length t ≤ length out + 4 → identifier_number (identifier_question t out).answer ≡ 9 → ⊥
room_identifier = RoomAsked.identifier_enough

-- a bit string's digits: three less, a letter and two marks; packed, half of the text's bytes are room enough. A number's text: forty bytes, or the text's length
pub room_bits_value : (σ : Settings) (β : ℕ) (t v : List ℕ) → value_of t (bits σ β t) ≡ means v → length v + 3 ≤ length t
room_bits_value = RoomDigits.bits_length

module _ (l : Literal) (S : List ℕ) (out : List ℕ) where
  pub room_bits : spanned l ≤ length out + 3 → text_number (bits_question l S out).answer ≡ 9 → ⊥
  room_bits = RoomAsked.bits_never l S out

  pub room_packed : spanned l ≤ 2 * length out + 3 → packed_number (packed_question l S out).answer ≡ 9 → ⊥
  room_packed = RoomAsked.packed_enough l S out

  pub room_decimal : 40 ≤ length out → spanned l ≤ length out + 1 → text_number (decimal_question l S out).answer ≡ 9 → ⊥
  room_decimal = RoomAsked.decimal_never l S out

-- the same of what calls return; of the C exports: `valdrabus`, `RoomExports`
module _ {σ : Settings} {t : List ℕ} (c : StringCall σ t) where
  pub room_calls : (v : List ℕ) → Shows c v → length v + 2 ≤ length t
  room_calls = RoomCalled.string_shown_calls c

  pub room_string_nine_calls : (n : ℕ) → c.result ≡ Err (NoRoom n) → (n + 2 ≤ length t) × (length c.lent < n)
  room_string_nine_calls = RoomCalled.string_nine_calls c

  pub room_string_calls : length t ≤ length c.lent + 2 → text_number c.result ≡ 9 → ⊥
  room_string_calls = RoomCalled.string_never_calls c

  pub room_string_shows_calls : (v : List ℕ) → Accepts σ t v → length t ≤ length c.lent + 2 → Shows c v
  room_string_shows_calls = RoomCalled.string_enough_calls c

-- and a call that is lent what another on the same text told with a 9 writes just that
pub room_again_calls : {σ : Settings} {t : List ℕ} (c d : StringCall σ t) (n : ℕ) → c.result ≡ Err (NoRoom n) → n ≤ length d.lent
    → d.result ≡ Ok (Text.Written n)
room_again_calls = RoomCalled.string_again_calls

module _ {t : List ℕ} (c : TemporalCall t) where
  pub room_temporal_nine_calls : (n : ℕ) → c.result ≡ Err (NoRoom n) → (n + 2 ≤ length t) × (length c.lent < n)
  room_temporal_nine_calls = RoomCalled.temporal_nine_calls c

  pub room_temporal_calls : length t ≤ length c.lent + 2 → text_number c.result ≡ 9 → ⊥
  room_temporal_calls = RoomCalled.temporal_never_calls c

-- of every item of a block call that is answered, behind the numbers a
module _ (a : List ℕ) (k g s e : ℕ) (b S : List ℕ) (f : length a % 4 ≡ 0) (c : BlockCall (a ++ (k ∷ (g ∷ (s ∷ (e ∷ b))))) S) (z : c.result ≡ 0) where
  pub room_block_nine_calls : take 4 (drop (length a) c.told) ! 0 ≡ 9 → take 4 (drop (length a) c.told) ! 3 + 2 ≤ e - s
  room_block_nine_calls = RoomBlocks.block_nine_calls a k g s e b S f c z

  pub room_block_calls : room_of (items_of (a ++ (k ∷ (g ∷ (s ∷ (e ∷ b)))))) ≤ length c.lent → take 4 (drop (length a) c.told) ! 0 ≡ 9 → ⊥
  room_block_calls = RoomBlocks.block_never_calls a k g s e b S f c z

pub room_packed_calls : {r : BitStringRadix} {t : List ℕ} (c : PackedCall r t) → length t ≤ 2 * length c.lent + 3 → packed_number c.result ≡ 9 → ⊥
room_packed_calls = RoomCalled.packed_never_calls

module _ (l : Literal) (S lent : List ℕ) (r : Result Text Refusal) (after : List ℕ) where
  pub room_bits_calls : Meets (bits_question l S lent) r after → spanned l ≤ length lent + 3 → text_number r ≡ 9 → ⊥
  room_bits_calls = RoomCalled.bits_never_calls l S lent r after

  pub room_decimal_calls : Meets (decimal_question l S lent) r after → 40 ≤ length lent → spanned l ≤ length lent + 1 → text_number r ≡ 9 → ⊥
  room_decimal_calls = RoomCalled.decimal_never_calls l S lent r after

pub room_identifier_calls : (t lent : List ℕ) (r : Result Text IdentifierError) (after : List ℕ) → Meets (identifier_question t lent) r after → length t ≤ length lent + 4
    → identifier_number r ≡ 9 → ⊥
room_identifier_calls = RoomCalled.identifier_never_calls
