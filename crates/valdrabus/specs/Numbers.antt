-- An answer in five numbers: 0 or the refusal's number; how a text is answered (0 not, 1 borrowed, 2 written); two numbers more; and the place of a 6. Where
-- nothing is said a number is 0. Assumes nothing.
use Rattle.std.specs.Prelude.{◌≡◌, true, false, List, ℕ, Result, Ok, Err}
use Rattle.meaning.specs.declared.Span.{Span}
use Rattle.meaning.specs.declared.Refusal.{Refusal}
use Rattle.meaning.specs.declared.Refusal.TheVariants.{WrongKind, MissingSource, InvalidSourceRange, NotUtf8, InvalidInteger, InvalidString, InvalidBitString}
use Rattle.meaning.specs.declared.Refusal.TheVariants.{InvalidMoney, NoRoom, InvalidDate}
use Rattle.meaning.specs.declared.Text.{Text}
use Rattle.meaning.specs.declared.Text.TheVariants as Text'
use Rattle.meaning.specs.declared.WritingError.{WritingError}
use Rattle.meaning.specs.declared.WritingError.TheVariants as WritingError'
use Rattle.meaning.specs.declared.BitWritingError.{BitWritingError}
use Rattle.meaning.specs.declared.BitWritingError.TheVariants as BitWritingError'
use Rattle.meaning.specs.Answers.{Outcome, expected_code, kind_code}
use Rattle.valdrabus.specs.declared.told.Told.{Told}
use Rattle.std.specs.Prelude.{Bool}
use Rattle.meaning.specs.declared.Part.{Part}
use Rattle.std.specs.Prelude.{Option, Some, None}
use Rattle.meaning.specs.declared.IdentifierError.{IdentifierError}
use Rattle.meaning.specs.declared.IdentifierError.TheVariants as IdentifierError'

abbrev pub five_told : ℕ → ℕ → ℕ → ℕ → ℕ → Told
five_told number how first second place = record { number = number; how = how; first = first; second = second; place = place }

abbrev pub four_told : ℕ → ℕ → ℕ → ℕ → Told
four_told number how first second = five_told number how first second 0

abbrev pub number_told : ℕ → Told
number_told n = four_told n 0 0 0

-- a part of the source; the buffer's start; the length for which there is no room
abbrev pub borrowed_told : ℕ → ℕ → Told
borrowed_told f u = four_told 0 1 f u

abbrev pub written_told : ℕ → Told
written_told n = four_told 0 2 0 n

abbrev pub room_told : ℕ → Told
room_told n = four_told 9 0 0 n

abbrev pub span_told : ℕ → Span → Told
span_told n s = four_told n 0 s.start s.end

-- [02 T-04] "6 gains the place"
abbrev pub place_told : Span → ℕ → Told
place_told s p = five_told 6 0 s.start s.end p

-- REFUSALS 1 to 9 and 14, and what each returns
abbrev pub refusal_told : Refusal → Told
refusal_told (WrongKind e k) = four_told 1 0 (expected_code e) (kind_code k)
refusal_told (MissingSource s) = span_told 2 s
refusal_told (InvalidSourceRange s) = span_told 3 s
refusal_told (NotUtf8 s) = span_told 4 s
refusal_told (InvalidInteger s) = span_told 5 s
refusal_told (InvalidString s p) = place_told s p
refusal_told (InvalidBitString s) = span_told 7 s
refusal_told (InvalidMoney s) = span_told 8 s
refusal_told (NoRoom n) = room_told n
refusal_told (InvalidDate s) = span_told 14 s

-- ANSWERS
abbrev pub text_told : Result Text Refusal → Told
text_told (Ok (Text'.Borrowed f u)) = borrowed_told f u
text_told (Ok (Text'.Written n)) = written_told n
text_told (Err r) = refusal_told r

abbrev pub range_told : Result Part Refusal → Told
range_told (Ok π) = borrowed_told π.start π.end
range_told (Err r) = refusal_told r

-- without a name, the number 0 and no text
abbrev pub charset_told : Result (Option Part) Refusal → Told
charset_told (Ok (Some π)) = borrowed_told π.start π.end
charset_told (Ok None) = number_told 0
charset_told (Err r) = refusal_told r

-- a boolean's value stands where another answer says how
abbrev pub truth_told : Result Bool Refusal → Told
truth_told (Ok true) = four_told 0 1 0 0
truth_told (Ok false) = number_told 0
truth_told (Err r) = refusal_told r

abbrev pub nullness_told : Result (Unit {0}) Refusal → Told
nullness_told (Ok tt) = number_told 0
nullness_told (Err r) = refusal_told r

abbrev pub identifier_told : Result Text IdentifierError → Told
identifier_told (Ok (Text'.Borrowed f u)) = borrowed_told f u
identifier_told (Ok (Text'.Written n)) = written_told n
identifier_told (Err IdentifierError'.NotUtf8) = number_told 4
identifier_told (Err IdentifierError'.InvalidString) = number_told 6
identifier_told (Err (IdentifierError'.NoRoom n)) = room_told n

abbrev pub writing_told : Result ℕ WritingError → Told
writing_told (Ok n) = written_told n
writing_told (Err WritingError'.OverLimit) = number_told 12
writing_told (Err WritingError'.NotUtf8) = number_told 4
writing_told (Err WritingError'.HoldsNul) = number_told 11
writing_told (Err (WritingError'.NoRoom n)) = room_told n

-- [02 T-07] 12 and 16 return the number alone
abbrev pub bit_writing_told : Result ℕ BitWritingError → Told
bit_writing_told (Ok n) = written_told n
bit_writing_told (Err BitWritingError'.OverLimit) = number_told 12
bit_writing_told (Err BitWritingError'.BadBits) = number_told 16
bit_writing_told (Err (BitWritingError'.NoRoom n)) = room_told n

-- WHAT A CONTRACT SAYS: the result and the lent numbers are those of an answer
pub record Says (t : Told) (r how first second : ℕ) : Type 0 where
  pub result : r ≡ t.number
  pub way : how ≡ t.how
  pub one : first ≡ t.first
  pub two : second ≡ t.second

-- and with a buffer, that the whole buffer is the definition's
pub record Tells (o : Outcome Told) (r how first second : ℕ) (after : List ℕ) : Type 0 where
  pub says : Says o.answer r how first second
  pub buffer : after ≡ o.buffer

-- [02 T-04] and where the place is lent too: "0 where nothing else is said, as for the others"
pub record SaysPlace (t : Told) (r how first second place : ℕ) : Type 0 where
  pub says : Says t r how first second
  pub stop : place ≡ t.place

pub record TellsPlace (o : Outcome Told) (r how first second place : ℕ) (after : List ℕ) : Type 0 where
  pub tells : Tells o r how first second after
  pub stop : place ≡ o.answer.place
