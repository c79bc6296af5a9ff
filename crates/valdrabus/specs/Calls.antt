-- What each exported call answers, in numbers: 10 where a number names nothing, else the question's own answer. Assumes nothing.
use Rattle.std.specs.Prelude.{Bool, true, false, ◌&&◌, ◌||◌, ◌≡◌, List, ℕ, eqb, leb, ℤ, pos, Result, Ok, Err}
use Rattle.meaning.specs.declared.CalendarDay.{CalendarDay}
use Rattle.meaning.specs.declared.BitStringRadix.{BitStringRadix}
use Rattle.meaning.specs.declared.BitStringRadix.TheVariants.{Binary, Hex}
use Rattle.meaning.specs.declared.PartSize.{PartSize}
use Rattle.meaning.specs.declared.Form.{Form}
use Rattle.meaning.specs.declared.RadixPrefix.{RadixPrefix}
use Rattle.std.specs.Prelude.{if◌then◌else◌}
use Rattle.meaning.specs.Answers.{Outcome}
use Rattle.meaning.specs.Questions.{string_question, decimal_question, bits_question, temporal_question, source_question, money_question, charset_question}
use Rattle.meaning.specs.Questions.{i64_question, bool_question, null_question, is_null, identifier_question}
use Rattle.meaning.specs.Writer.{write_question}
use Rattle.meaning.specs.Forms.{form_question}
use Rattle.meaning.specs.Dates.{date_question, day_question}
use Rattle.meaning.specs.Packing.{packed_question, bit_write_question}
use Rattle.valdrabus.specs.declared.told.Told.{Told}
use Rattle.valdrabus.specs.declared.counted.Counted.{Counted}
use Rattle.valdrabus.specs.declared.dated.DayTold.{DayTold}
use Rattle.valdrabus.specs.declared.packed.PackedTold.{PackedTold}
use Rattle.meaning.specs.Codes.{kind_of, is_known, literal_of, settings_of}
use Rattle.valdrabus.specs.Numbers.{number_told, written_told, refusal_told, text_told, range_told, charset_told, truth_told, nullness_told, identifier_told}
use Rattle.valdrabus.specs.Numbers.{writing_told, bit_writing_told, Says}
use Rattle.meaning.specs.declared.Refusal.{Refusal}
use Rattle.std.specs.Prelude.{Option, Some, None}
use Rattle.meaning.specs.declared.PackedBits.{PackedBits}

-- an answer and its buffer, told in numbers
abbrev pub outcome_told : {A B : Type 0} → (A → B) → Outcome A → Outcome B
outcome_told f o = record { answer = f o.answer; buffer = o.buffer }

-- a call whose numbers name something, or not: then it answers ten, and the buffer is as lent
abbrev pub called_or : {B : Type 0} → B → Bool → List ℕ → Outcome B → Outcome B
called_or ten true out o = o
called_or ten false out o = record { answer = ten; buffer = out }

abbrev pub called : Bool → List ℕ → Outcome Told → Outcome Told
called known out o = called_or (number_told 10) known out o

abbrev pub called_bare : Bool → Told → Told
called_bare true t = t
called_bare false t = number_told 10

-- TEXTS: kind, synthetic, start, end, source, (setting,) buffer
unfoldable pub string_call : ℕ → ℕ → ℕ → ℕ → List ℕ → ℕ → List ℕ → Outcome Told
string_call k y s e source σ out = called (is_known k y σ) out (outcome_told text_told (string_question (literal_of k y s e) source (settings_of σ) out))

unfoldable pub decimal_call : ℕ → ℕ → ℕ → ℕ → List ℕ → List ℕ → Outcome Told
decimal_call k y s e source out = called (is_known k y 0) out (outcome_told text_told (decimal_question (literal_of k y s e) source out))

unfoldable pub bits_call : ℕ → ℕ → ℕ → ℕ → List ℕ → List ℕ → Outcome Told
bits_call k y s e source out = called (is_known k y 0) out (outcome_told text_told (bits_question (literal_of k y s e) source out))

unfoldable pub temporal_call : ℕ → ℕ → ℕ → ℕ → List ℕ → List ℕ → Outcome Told
temporal_call k y s e source out = called (is_known k y 0) out (outcome_told text_told (temporal_question (literal_of k y s e) source out))

-- PARTS of the source
unfoldable pub source_call : ℕ → ℕ → ℕ → ℕ → List ℕ → Told
source_call k y s e source = called_bare (is_known k y 0) (range_told (source_question (literal_of k y s e) source))

unfoldable pub money_call : ℕ → ℕ → ℕ → ℕ → List ℕ → Told
money_call k y s e source = called_bare (is_known k y 0) (range_told (money_question (literal_of k y s e) source))

unfoldable pub charset_call : ℕ → ℕ → ℕ → ℕ → List ℕ → Told
charset_call k y s e source = called_bare (is_known k y 0) (charset_told (charset_question (literal_of k y s e) source))

-- VALUES
abbrev pub integer_value : Result ℤ Refusal → ℤ
integer_value (Ok z) = z
integer_value (Err r) = pos 0

abbrev pub integer_told : Result ℤ Refusal → Told
integer_told (Ok z) = number_told 0
integer_told (Err r) = refusal_told r

abbrev pub counted_of : Result ℤ Refusal → Counted
counted_of a = record { told = integer_told a; value = integer_value a }

abbrev pub called_count : Bool → Counted → Counted
called_count true n = n
called_count false n = record { told = number_told 10; value = pos 0 }

unfoldable pub i64_call : ℕ → ℕ → ℕ → ℕ → List ℕ → Counted
i64_call k y s e source = called_count (is_known k y 0) (counted_of (i64_question (literal_of k y s e) source))

unfoldable pub bool_call : ℕ → Told
bool_call k = called_bare (is_known k 0 0) (truth_told (bool_question (kind_of k)))

unfoldable pub null_call : ℕ → Told
null_call k = called_bare (is_known k 0 0) (nullness_told (null_question (kind_of k)))

unfoldable pub is_null_call : ℕ → Bool
is_null_call k = is_known k 0 0 && is_null (kind_of k)

-- [02 T-05] DAYS: year, month, day and number, all 0 on a refusal
abbrev pub no_day : CalendarDay
no_day = record { year = 0; month = 0; day = 0; number = 0 }

abbrev pub day_told : Told → CalendarDay → DayTold
day_told t d = record { told = t; on = d }

abbrev pub dated_told : Result CalendarDay Refusal → DayTold
dated_told (Ok d) = day_told (number_told 0) d
dated_told (Err r) = day_told (refusal_told r) no_day

abbrev pub found_told : Option CalendarDay → DayTold
found_told (Some d) = day_told (number_told 0) d
found_told None = day_told (number_told 14) no_day

abbrev pub called_day : Bool → DayTold → DayTold
called_day true t = t
called_day false t = day_told (number_told 10) no_day

unfoldable pub date_call : ℕ → ℕ → ℕ → ℕ → List ℕ → DayTold
date_call k y s e source = called_day (is_known k y 0) (dated_told (date_question (literal_of k y s e) source))

-- of a number: none is given that could name nothing
unfoldable pub day_call : ℕ → DayTold
day_call n = found_told (day_question n)

-- [02 T-07] PACKED BITS, and how many: none on a refusal. On 9 the length counts packed bytes
abbrev pub no_bits : Told → PackedTold
no_bits t = record { told = t; bits = 0 }

abbrev pub packed_told : Result PackedBits Refusal → PackedTold
packed_told (Ok π) = record { told = written_told π.len; bits = π.bits }
packed_told (Err r) = no_bits (refusal_told r)

unfoldable pub packed_call : ℕ → ℕ → ℕ → ℕ → List ℕ → List ℕ → Outcome PackedTold
packed_call k y s e source out =
    called_or (no_bits (number_told 10)) (is_known k y 0) out (outcome_told packed_told (packed_question (literal_of k y s e) source out))

-- the reverse is told the letter by a bit string's kind, 12 for B and 13 for X: bytes, bit count, kind, buffer
abbrev pub is_bit_kind : ℕ → Bool
is_bit_kind k = eqb k 12 || eqb k 13

abbrev pub radix_of : ℕ → BitStringRadix
radix_of k = if eqb k 12 then Binary else Hex

unfoldable pub bit_write_call : List ℕ → ℕ → ℕ → List ℕ → Outcome Told
bit_write_call bytes n k out = called (is_bit_kind k) out (outcome_told bit_writing_told (bit_write_question (radix_of k) bytes n out))

-- THE WRITERS, and an identifier: no literal
unfoldable pub write_call : PartSize → List ℕ → ℕ → List ℕ → Outcome Told
write_call p v σ out = called (leb σ 1) out (outcome_told writing_told (write_question (settings_of σ) p v out))

-- in a form: no number is given that could name nothing
unfoldable pub form_call : Form → List ℕ → List ℕ → Outcome Told
form_call f v out = outcome_told writing_told (form_question f v out)

unfoldable pub identifier_call : List ℕ → List ℕ → Outcome Told
identifier_call t out = outcome_told identifier_told (identifier_question t out)

-- WHAT A CONTRACT SAYS of an integer, of NULL, of the writer and of a day, which lend other numbers
pub record Counts (n : Counted) (r : ℕ) (value : ℤ) (first second : ℕ) : Type 0 where
  pub result : r ≡ n.told.number
  pub counted : value ≡ n.value
  pub one : first ≡ n.told.first
  pub two : second ≡ n.told.second

pub record Bare (t : Told) (r first second : ℕ) : Type 0 where
  pub result : r ≡ t.number
  pub one : first ≡ t.first
  pub two : second ≡ t.second

pub record Lengths (o : Outcome Told) (r len : ℕ) (after : List ℕ) : Type 0 where
  pub result : r ≡ o.answer.number
  pub long : len ≡ o.answer.second
  pub buffer : after ≡ o.buffer

pub record Splits (p : RadixPrefix) (r start : ℕ) : Type 0 where
  pub base : r ≡ p.base
  pub digits : start ≡ p.start

-- [02 T-05] of a day, and of a number's day, which the caller has
pub record Dates (t : DayTold) (r year month day number first second : ℕ) : Type 0 where
  pub result : r ≡ t.told.number
  pub years : year ≡ t.on.year
  pub months : month ≡ t.on.month
  pub days : day ≡ t.on.day
  pub counted : number ≡ t.on.number
  pub one : first ≡ t.told.first
  pub two : second ≡ t.told.second

pub record Finds (t : DayTold) (r year month day : ℕ) : Type 0 where
  pub result : r ≡ t.told.number
  pub years : year ≡ t.on.year
  pub months : month ≡ t.on.month
  pub days : day ≡ t.on.day

-- [02 T-07] of packed bits: the numbers, how many bits, and the whole buffer
pub record Packs (o : Outcome PackedTold) (r bits how first second : ℕ) (after : List ℕ) : Type 0 where
  pub says : Says o.answer.told r how first second
  pub count : bits ≡ o.answer.bits
  pub buffer : after ≡ o.buffer
