-- The rows of the tables of this folder: a question, what it is asked of, and the answer that must come out. Each table is one
-- computation, `T (all rows)`. Assumes nothing.
use Rattle.std.specs.Prelude.{Result, Ok, Err}
use mathlib.Core.Bool.{Bool, true, false, ◌&&◌, not}
use mathlib.Core.List.{List, [], ◌∷◌, ◌++◌}
use Prim.Native.Nat.{ℕ, zero, suc, ◌+◌, ◌-◌}
use Prim.Native.String.{String}
use lib.Dec.{eqb}
use lib.ListN.{length, replicate}
use lib.IntN.{ℤ, pos, negsuc}
use Rattle.meaning.specs.declared.BitStringRadix.{BitStringRadix}
use Rattle.meaning.specs.declared.PartSize.{PartSize}
use Rattle.meaning.specs.declared.Form.{Form}
use Rattle.meaning.specs.declared.RadixPrefix.{RadixPrefix}
use Rattle.meaning.specs.declared.Literal.{Literal}
use Rattle.meaning.specs.declared.Text.{Text}
use Rattle.meaning.specs.declared.WritingError.{WritingError}
use Rattle.meaning.specs.declared.WritingError.TheVariants as WritingError'
use Rattle.meaning.specs.declared.BitWritingError.{BitWritingError}
use Rattle.meaning.specs.declared.BitWritingError.TheVariants as BitWritingError'
use Rattle.meaning.specs.Bytes.{ascii, same}
use Rattle.meaning.specs.Answers.{Outcome, kind_code, payload, refusal_values, text_number, text_values, range_number, range_values, charset_number}
use Rattle.meaning.specs.Answers.{charset_values, integer_number, integer_values, truth_number, truth_values, nullness_number, nullness_values, identifier_number}
use Rattle.meaning.specs.Answers.{identifier_values, writing_number, writing_values, found_number, found_values, dated_number, dated_values, part_shown, shown}
use Rattle.meaning.specs.Answers.{range_shown, charset_shown, packed_number, packed_values, bit_writing_number, bit_writing_values}
use Rattle.meaning.specs.Numbers.{radix_prefix}
use Rattle.meaning.specs.Halves.{joined_halves, text_of}
use Rattle.meaning.specs.Helpers.{uescape_legal, escape_valid, unicode_valid, embeds_nul, is_unicode_ident}
use Rattle.meaning.specs.Questions.{string_question, plain_question, decimal_question, bits_question, temporal_question, source_question, money_question}
use Rattle.meaning.specs.Questions.{charset_question, i64_question, bool_question, null_question, identifier_question}
use Rattle.meaning.specs.Writer.{write_question}
use Rattle.meaning.specs.Forms.{form_question}
use Rattle.meaning.specs.Codes.{kind_of}
use Rattle.meaning.specs.Records.{output}
use Rattle.meaning.specs.Blocks.{BlockOutcome, block_call}
use Rattle.meaning.specs.Dates.{date_question, day_question}
use Rattle.meaning.specs.Packing.{packed_question, bit_write_question}
use Rattle.meaning.specs.declared.Refusal.{Refusal}
use Rattle.meaning.specs.declared.Part.{Part}
use Rattle.std.specs.Prelude.{Option}
use Rattle.meaning.specs.declared.CalendarDay.{CalendarDay}
use Rattle.meaning.specs.declared.Text.TheVariants as Text'
use Rattle.meaning.specs.declared.IdentifierError.{IdentifierError}
use Rattle.meaning.specs.declared.IdentifierError.TheVariants as IdentifierError'
use Rattle.meaning.specs.declared.PackedBits.{PackedBits}

-- Texts stand in quotes, one character for each byte: `ascii` turns a character into the byte of its code, also from 80 to FF

-- WHAT IS ASKED of a literal; the Bool is the backslash setting
pub data Question : Type 0 where
  string : Bool → Question
  plain decimal_text bit_text temporal_text money_text source_part charset i64 bool null date packed_bits : Question

-- of a bare text
pub data Helper : Type 0 where
  uescape_legality escape_validity unicode_validity embedded_nul is_ident : Helper

-- WHAT IS ANSWERED. A part of the source, from .. to .., and its bytes; bytes that are written, with some bytes of room left over;
-- the same bytes, where the room is some bytes short; an integer, and its negative; no charset name; yes or no; a refusal by its number,
-- which gives back the span; refusal 6 with some bytes of room, which gives back the span and a place of the text; a wrong kind, where
-- the question expects another family; a year, a month, a day and the day's number; bytes that are packed, with some bytes of room left
-- over, and how many bits they hold; one of these that writes nothing, with some bytes of room
pub data Told : Type 0 where
  borrows : ℕ → ℕ → String → Told
  writes : ℕ → String → Told
  cramped : ℕ → String → Told
  plus minus : ℕ → Told
  unnamed : Told
  says : Bool → Told
  refuses : ℕ → Told
  breaks : ℕ → ℕ → Told
  unfit : ℕ → Told
  dated : ℕ → ℕ → ℕ → ℕ → Told
  packed : ℕ → String → ℕ → Told
  lending : ℕ → Told → Told

-- what a row compares: the number and the values, the bytes shown, and the buffer behind the call
pub record Seen : Type 0 where
  pub values : List ℕ
  pub bytes : List ℕ
  pub buffer : List ℕ

-- BUFFERS are lent full of one byte
abbrev pub fill : ℕ → List ℕ
fill n = replicate n 0xA5

-- the room that a row lends: what its answer needs and some bytes more, or some too few; where nothing is written three bytes, or as many as it says
abbrev pub lent : Told → List ℕ
lent (borrows f u t) = fill 3
lent (writes n t) = fill (length (ascii t) + n)
lent (cramped k t) = fill (length (ascii t) - k)
lent (plus n) = fill 3
lent (minus n) = fill 3
lent unnamed = fill 3
lent (says b) = fill 3
lent (refuses n) = fill 3
lent (breaks n p) = fill n
lent (unfit e) = fill 3
lent (dated y m d n) = fill 3
lent (packed n t b) = fill (length (ascii t) + n)
lent (lending n w) = fill n

abbrev pub yes_no : Bool → ℕ
yes_no true = 1
yes_no false = 0

-- what must be seen on a literal
abbrev pub due : Literal → Told → Seen
due l (borrows f u t) = record { values = 0 ∷ f ∷ u ∷ []; bytes = ascii t; buffer = fill 3 }
due l (writes n t) = record { values = 0 ∷ length (ascii t) ∷ []; bytes = ascii t; buffer = ascii t ++ fill n }
due l (cramped k t) = record { values = 9 ∷ length (ascii t) ∷ []; bytes = []; buffer = fill (length (ascii t) - k) }
due l (plus n) = record { values = 0 ∷ 0 ∷ n ∷ []; bytes = []; buffer = fill 3 }
due l (minus n) = record { values = 0 ∷ 1 ∷ n ∷ []; bytes = []; buffer = fill 3 }
due l unnamed = record { values = 0 ∷ []; bytes = []; buffer = fill 3 }
due l (says b) = record { values = 0 ∷ yes_no b ∷ []; bytes = []; buffer = fill 3 }
due l (refuses n) = record { values = n ∷ l.span.start ∷ l.span.end ∷ []; bytes = []; buffer = fill 3 }
due l (breaks n p) = record { values = 6 ∷ l.span.start ∷ l.span.end ∷ p ∷ []; bytes = []; buffer = fill n }
due l (unfit e) = record { values = 1 ∷ e ∷ kind_code l.kind ∷ payload l.kind; bytes = []; buffer = fill 3 }
due l (dated y m d n) = record { values = 0 ∷ y ∷ m ∷ d ∷ n ∷ []; bytes = []; buffer = fill 3 }
due l (packed n t b) = record { values = 0 ∷ length (ascii t) ∷ b ∷ []; bytes = ascii t; buffer = ascii t ++ fill n }
due l (lending n w) = record { values = (due l w).values; bytes = (due l w).bytes; buffer = fill n }

-- what is seen of each kind of answer
abbrev pub text_seen : List ℕ → Outcome (Result Text Refusal) → Seen
text_seen source o =
    record { values = text_number o.answer ∷ text_values o.answer; bytes = shown source o.buffer o.answer; buffer = o.buffer }

abbrev pub range_seen : List ℕ → List ℕ → Result Part Refusal → Seen
range_seen source out a = record { values = range_number a ∷ range_values a; bytes = range_shown source a; buffer = out }

abbrev pub charset_seen : List ℕ → List ℕ → Result (Option Part) Refusal → Seen
charset_seen source out a = record { values = charset_number a ∷ charset_values a; bytes = charset_shown source a; buffer = out }

-- an integer's sign, 1 for a minus, and its magnitude
abbrev pub sign_and_size : List ℤ → List ℕ
sign_and_size [] = []
sign_and_size (pos n ∷ zs) = 0 ∷ n ∷ sign_and_size zs
sign_and_size (negsuc n ∷ zs) = 1 ∷ suc n ∷ sign_and_size zs

abbrev pub integer_told : Result ℤ Refusal → List ℕ
integer_told (Ok z) = integer_number (Ok z) ∷ sign_and_size (integer_values (Ok z))
integer_told (Err r) = integer_number (Err r) ∷ refusal_values r

abbrev pub truth_told : Result Bool Refusal → List ℕ
truth_told a = truth_number a ∷ truth_values a

-- that it is null is told as a yes
abbrev pub nullness_told : Result (Unit {0}) Refusal → List ℕ
nullness_told (Ok tt) = nullness_number (Ok tt) ∷ 1 ∷ nullness_values (Ok tt)
nullness_told (Err r) = nullness_number (Err r) ∷ nullness_values (Err r)

-- the day of a date, or of a number
abbrev pub dated_told : Result CalendarDay Refusal → List ℕ
dated_told a = dated_number a ∷ dated_values a

abbrev pub found_told : Option CalendarDay → List ℕ
found_told a = found_number a ∷ found_values a

-- packed bits are shown where they are written
abbrev pub packed_shown : List ℕ → Result PackedBits Refusal → List ℕ
packed_shown out (Ok π) = part_shown 0 π.len out
packed_shown out (Err r) = []

abbrev pub packed_seen : Outcome (Result PackedBits Refusal) → Seen
packed_seen o =
    record { values = packed_number o.answer ∷ packed_values o.answer; bytes = packed_shown o.buffer o.answer; buffer = o.buffer }

abbrev pub values_seen : List ℕ → List ℕ → Seen
values_seen out vs = record { values = vs; bytes = []; buffer = out }

-- a question on a literal of a source, with a buffer
abbrev pub seen : Question → Literal → List ℕ → List ℕ → Seen
seen (string b) l t out = text_seen t (string_question l t (record { backslash = b }) out)
seen plain l t out = text_seen t (plain_question l t out)
seen decimal_text l t out = text_seen t (decimal_question l t out)
seen bit_text l t out = text_seen t (bits_question l t out)
seen temporal_text l t out = text_seen t (temporal_question l t out)
seen money_text l t out = range_seen t out (money_question l t)
seen source_part l t out = range_seen t out (source_question l t)
seen charset l t out = charset_seen t out (charset_question l t)
seen i64 l t out = values_seen out (integer_told (i64_question l t))
seen bool l t out = values_seen out (truth_told (bool_question l.kind))
seen null l t out = values_seen out (nullness_told (null_question l.kind))
seen date l t out = values_seen out (dated_told (date_question l t))
seen packed_bits l t out = packed_seen (packed_question l t out)

abbrev pub helper_says : Helper → List ℕ → Bool
helper_says uescape_legality t = uescape_legal t
helper_says escape_validity t = escape_valid t
helper_says unicode_validity t = unicode_valid t
helper_says embedded_nul t = embeds_nul t
helper_says is_ident t = is_unicode_ident t

-- identifiers, on bare text: a refusal is its number alone
abbrev pub identifier_due : Told → Seen
identifier_due (borrows f u t) = record { values = 0 ∷ f ∷ u ∷ []; bytes = ascii t; buffer = fill 3 }
identifier_due (writes n t) = record { values = 0 ∷ length (ascii t) ∷ []; bytes = ascii t; buffer = ascii t ++ fill n }
identifier_due (cramped k t) = record { values = 9 ∷ length (ascii t) ∷ []; bytes = []; buffer = fill (length (ascii t) - k) }
identifier_due (plus n) = values_seen [] []
identifier_due (minus n) = values_seen [] []
identifier_due unnamed = values_seen [] []
identifier_due (says b) = values_seen [] []
identifier_due (refuses n) = record { values = n ∷ []; bytes = []; buffer = fill 3 }
identifier_due (breaks n p) = values_seen [] []
identifier_due (unfit e) = values_seen [] []
identifier_due (dated y m d n) = values_seen [] []
identifier_due (packed n t b) = values_seen [] []
identifier_due (lending n w) = values_seen [] []

abbrev pub identifier_shown : List ℕ → List ℕ → Result Text IdentifierError → List ℕ
identifier_shown t out (Ok (Text'.Borrowed f u)) = part_shown f u t
identifier_shown t out (Ok (Text'.Written n)) = part_shown 0 n out
identifier_shown t out (Err IdentifierError'.NotUtf8) = []
identifier_shown t out (Err IdentifierError'.InvalidString) = []
identifier_shown t out (Err (IdentifierError'.NoRoom n)) = []

abbrev pub identifier_seen : List ℕ → Outcome (Result Text IdentifierError) → Seen
identifier_seen t o =
    record { values = identifier_number o.answer ∷ identifier_values o.answer; bytes = identifier_shown t o.buffer o.answer; buffer = o.buffer }

-- THE WRITERS: the literal that is written; the length that is needed; a refusal by its number
pub data Wrote : Type 0 where
  wrote : String → Wrote
  needs refused : ℕ → Wrote

abbrev pub wrote_due : ℕ → Wrote → Seen
wrote_due n (wrote t) = record { values = 0 ∷ length (ascii t) ∷ []; bytes = ascii t; buffer = ascii t ++ fill (n - length (ascii t)) }
wrote_due n (needs k) = record { values = 9 ∷ k ∷ []; bytes = []; buffer = fill n }
wrote_due n (refused k) = record { values = k ∷ []; bytes = []; buffer = fill n }

abbrev pub wrote_shown : List ℕ → Result ℕ WritingError → List ℕ
wrote_shown out (Ok n) = part_shown 0 n out
wrote_shown out (Err WritingError'.OverLimit) = []
wrote_shown out (Err WritingError'.NotUtf8) = []
wrote_shown out (Err WritingError'.HoldsNul) = []
wrote_shown out (Err (WritingError'.NoRoom n)) = []

abbrev pub wrote_seen : Outcome (Result ℕ WritingError) → Seen
wrote_seen o =
    record { values = writing_number o.answer ∷ writing_values o.answer; bytes = wrote_shown o.buffer o.answer; buffer = o.buffer }

abbrev pub bits_wrote_shown : List ℕ → Result ℕ BitWritingError → List ℕ
bits_wrote_shown out (Ok n) = part_shown 0 n out
bits_wrote_shown out (Err BitWritingError'.OverLimit) = []
bits_wrote_shown out (Err BitWritingError'.BadBits) = []
bits_wrote_shown out (Err (BitWritingError'.NoRoom n)) = []

abbrev pub bits_wrote_seen : Outcome (Result ℕ BitWritingError) → Seen
bits_wrote_seen o =
    record {
      values = bit_writing_number o.answer ∷ bit_writing_values o.answer;
      bytes = bits_wrote_shown o.buffer o.answer;
      buffer = o.buffer;
    }

-- A BLOCK'S CALL: four numbers for each item, and the bytes that are written, from the buffer's start on; or 15
pub data Called : Type 0 where
  tells : List ℕ → String → Called
  declines : Called

-- answer slices are lent full of other numbers, at each place another: so many, from a place on
abbrev pub others : ℕ → ℕ → List ℕ
others at zero = []
others at (suc n) = (0xA5A5A5A5 + at) ∷ others (suc at) n

-- what the call must return and leave: of an answer slice of n numbers and a buffer of m bytes, all of both
abbrev pub call_due : ℕ → ℕ → Called → BlockOutcome
call_due n m (tells fs t) =
    record { number = 0; answers = fs ++ others (length fs) (n - length fs); buffer = ascii t ++ fill (m - length (ascii t)) }
call_due n m declines = record { number = 15; answers = others 0 n; buffer = fill m }

abbrev pub same_call : BlockOutcome → BlockOutcome → Bool
same_call a b = eqb a.number b.number && same a.answers b.answers && same a.buffer b.buffer

-- THE ROWS. A literal by its kind's code, the bytes of the source before it, its text, and the bytes behind it; a literal by a span
-- of a source; one without a source; a helper; an identifier; a radix prefix; a value that the writer is given, with a setting, a part
-- size and a buffer's length; one that it is given with a form, and a buffer's length; what the record program is given, with zero
-- bytes between a head and a tail, and the lines it prints; a block's items and source, and the lengths of the answer slice and the buffer;
-- the number of a day, and what is told of it; the two halves of a number, and its text; bytes and a bit count that are written with a
-- radix, and a buffer's length
pub data Row : Type 0 where
  asks : Question → ℕ → String → String → String → Told → Row
  spans : Question → ℕ → ℕ → ℕ → String → Told → Row
  detached : Question → ℕ → ℕ → ℕ → String → Told → Row
  helps : Helper → String → Bool → Row
  names : String → Told → Row
  prefixed : String → ℕ → ℕ → Row
  spells : Bool → PartSize → String → ℕ → Wrote → Row
  forms : Form → String → ℕ → Wrote → Row
  prints : String → ℕ → String → String → Row
  block : List ℕ → String → ℕ → ℕ → Called → Row
  numbered : ℕ → List ℕ → Row
  halves : ℕ → ℕ → String → Row
  unpacks : BitStringRadix → String → ℕ → ℕ → Wrote → Row

abbrev pub same_seen : Seen → Seen → Bool
same_seen a b = same a.values b.values && same a.bytes b.bytes && same a.buffer b.buffer

abbrev pub literal_of : ℕ → Bool → ℕ → ℕ → Literal
literal_of k s f u = record { kind = kind_of k; synthetic = s; span = record { start = f; end = u } }

abbrev pub asked : Question → Literal → List ℕ → Told → Bool
asked q l t w = same_seen (seen q l t (lent w)) (due l w)

abbrev pub equal : Bool → Bool → Bool
equal true b = b
equal false b = not b

abbrev pub same_prefix : RadixPrefix → ℕ → ℕ → Bool
same_prefix p β n = eqb p.base β && eqb p.start n

abbrev pub right : Row → Bool
right (asks q k before t behind w) =
    asked q (literal_of k false (length (ascii before)) (length (ascii before) + length (ascii t))) (ascii before ++ (ascii t ++ ascii behind)) w
right (spans q k f u t w) = asked q (literal_of k false f u) (ascii t) w
right (detached q k f u t w) = asked q (literal_of k true f u) (ascii t) w
right (helps h t b) = equal (helper_says h (ascii t)) b
right (names t w) = same_seen (identifier_seen (ascii t) (identifier_question (ascii t) (lent w))) (identifier_due w)
right (prefixed t β n) = same_prefix (radix_prefix (ascii t)) β n
right (spells b size v n w) = same_seen (wrote_seen (write_question (record { backslash = b }) size (ascii v) (fill n))) (wrote_due n w)
right (forms f v n w) = same_seen (wrote_seen (form_question f (ascii v) (fill n))) (wrote_due n w)
right (prints head n tail lines) = same (output (ascii head ++ (replicate n 0 ++ ascii tail))) (ascii lines)
right (block is t n m w) = same_call (block_call is (ascii t) (others 0 n) (fill m)) (call_due n m w)
right (numbered n vs) = same (found_told (day_question n)) vs
right (halves hi lo t) = same (text_of (joined_halves hi lo)) (ascii t)
right (unpacks x v b n w) = same_seen (bits_wrote_seen (bit_write_question x (ascii v) b (fill n))) (wrote_due n w)

abbrev pub all : List Row → Bool
all [] = true
all (r ∷ rs) = right r && all rs
