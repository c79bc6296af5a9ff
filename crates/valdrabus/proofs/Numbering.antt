-- The four numbers are document 01's: the number of every answer, and its values, as `meaning` gives them. Assumes nothing.
use Rattle.std.specs.Prelude.{Result, Ok, Err}
use mathlib.Core.Path.{◌≡◌, refl}
use mathlib.Core.Bool.{true, false}
use mathlib.Core.List.{List, [], ◌∷◌, ◌++◌}
use Prim.Native.Nat.{ℕ}
use lib.IntN.{ℤ}
use Rattle.meaning.specs.declared.Refusal.{Refusal}
use Rattle.meaning.specs.declared.Refusal.TheVariants.{WrongKind, MissingSource, InvalidSourceRange, NotUtf8, InvalidInteger, InvalidString, InvalidBitString}
use Rattle.meaning.specs.declared.Refusal.TheVariants.{InvalidMoney, NoRoom, InvalidDate}
use Rattle.meaning.specs.declared.Text.{Text}
use Rattle.meaning.specs.declared.Text.TheVariants as Text'
use Rattle.meaning.specs.declared.WritingError.{WritingError}
use Rattle.meaning.specs.declared.WritingError.TheVariants as WritingError'
use Rattle.meaning.specs.declared.CalendarDay.{CalendarDay}
use Rattle.meaning.specs.declared.BitWritingError.{BitWritingError}
use Rattle.meaning.specs.declared.BitWritingError.TheVariants as BitWritingError'
use Rattle.meaning.specs.Answers.{payload, refusal_number, refusal_values, text_number, text_values, range_number, range_values, charset_number, charset_values}
use Rattle.meaning.specs.Answers.{integer_number, integer_values, truth_number, truth_values, nullness_number, identifier_number, identifier_values, writing_number}
use Rattle.meaning.specs.Answers.{writing_values, found_number, found_values, dated_number, dated_values, packed_number, packed_values, bit_writing_number}
use Rattle.meaning.specs.Answers.{bit_writing_values}
use Rattle.valdrabus.specs.declared.told.Told.{Told}
use Rattle.valdrabus.specs.declared.packed.PackedTold.{PackedTold}
use Rattle.valdrabus.specs.Numbers.{refusal_told, text_told, range_told, charset_told, truth_told, nullness_told, identifier_told, writing_told, bit_writing_told}
use Rattle.valdrabus.specs.Calls.{integer_told, integer_value, dated_told, found_told, packed_told}
use Rattle.std.specs.Prelude.{Bool}
use Rattle.meaning.specs.declared.Part.{Part}
use Rattle.meaning.specs.Answers.{part_at}
use Rattle.std.specs.Prelude.{Option, Some, None}
use Rattle.meaning.specs.declared.IdentifierError.{IdentifierError}
use Rattle.meaning.specs.declared.IdentifierError.TheVariants as IdentifierError'
use Rattle.meaning.specs.declared.PackedBits.{PackedBits}
use Rattle.meaning.specs.Answers.{packed_at}

-- NUMBERS
pub refusal_number_lem : (r : Refusal) → (refusal_told r).number ≡ refusal_number r
refusal_number_lem (WrongKind e k) = refl
refusal_number_lem (MissingSource s) = refl
refusal_number_lem (InvalidSourceRange s) = refl
refusal_number_lem (NotUtf8 s) = refl
refusal_number_lem (InvalidInteger s) = refl
refusal_number_lem (InvalidString s p) = refl
refusal_number_lem (InvalidBitString s) = refl
refusal_number_lem (InvalidMoney s) = refl
refusal_number_lem (NoRoom n) = refl
refusal_number_lem (InvalidDate s) = refl

pub text_number_lem : (a : Result Text Refusal) → (text_told a).number ≡ text_number a
text_number_lem (Ok (Text'.Borrowed f u)) = refl
text_number_lem (Ok (Text'.Written n)) = refl
text_number_lem (Err r) = refusal_number_lem r

pub range_number_lem : (a : Result Part Refusal) → (range_told a).number ≡ range_number a
range_number_lem (Ok π) = refl
range_number_lem (Err r) = refusal_number_lem r

pub charset_number_lem : (a : Result (Option Part) Refusal) → (charset_told a).number ≡ charset_number a
charset_number_lem (Ok (Some π)) = refl
charset_number_lem (Ok None) = refl
charset_number_lem (Err r) = refusal_number_lem r

pub integer_number_lem : (a : Result ℤ Refusal) → (integer_told a).number ≡ integer_number a
integer_number_lem (Ok z) = refl
integer_number_lem (Err r) = refusal_number_lem r

pub truth_number_lem : (a : Result Bool Refusal) → (truth_told a).number ≡ truth_number a
truth_number_lem (Ok true) = refl
truth_number_lem (Ok false) = refl
truth_number_lem (Err r) = refusal_number_lem r

pub nullness_number_lem : (a : Result (Unit {0}) Refusal) → (nullness_told a).number ≡ nullness_number a
nullness_number_lem (Ok tt) = refl
nullness_number_lem (Err r) = refusal_number_lem r

pub identifier_number_lem : (a : Result Text IdentifierError) → (identifier_told a).number ≡ identifier_number a
identifier_number_lem (Ok (Text'.Borrowed f u)) = refl
identifier_number_lem (Ok (Text'.Written n)) = refl
identifier_number_lem (Err IdentifierError'.NotUtf8) = refl
identifier_number_lem (Err IdentifierError'.InvalidString) = refl
identifier_number_lem (Err (IdentifierError'.NoRoom n)) = refl

pub writing_number_lem : (a : Result ℕ WritingError) → (writing_told a).number ≡ writing_number a
writing_number_lem (Ok n) = refl
writing_number_lem (Err WritingError'.OverLimit) = refl
writing_number_lem (Err WritingError'.NotUtf8) = refl
writing_number_lem (Err WritingError'.HoldsNul) = refl
writing_number_lem (Err (WritingError'.NoRoom n)) = refl

-- [02 T-05]
pub dated_number_lem : (a : Result CalendarDay Refusal) → (dated_told a).told.number ≡ dated_number a
dated_number_lem (Ok d) = refl
dated_number_lem (Err r) = refusal_number_lem r

pub found_number_lem : (a : Option CalendarDay) → (found_told a).told.number ≡ found_number a
found_number_lem (Some d) = refl
found_number_lem None = refl

-- [02 T-07]
pub packed_number_lem : (a : Result PackedBits Refusal) → (packed_told a).told.number ≡ packed_number a
packed_number_lem (Ok π) = refl
packed_number_lem (Err r) = refusal_number_lem r

pub bit_writing_number_lem : (a : Result ℕ BitWritingError) → (bit_writing_told a).number ≡ bit_writing_number a
bit_writing_number_lem (Ok n) = refl
bit_writing_number_lem (Err BitWritingError'.OverLimit) = refl
bit_writing_number_lem (Err BitWritingError'.BadBits) = refl
bit_writing_number_lem (Err (BitWritingError'.NoRoom n)) = refl

-- VALUES: first and second, or second alone where one is given; and a 6's place. The actual kind's own data stay with the caller
abbrev both : Told → List ℕ
both t = t.first ∷ t.second ∷ []

abbrev last : Told → List ℕ
last t = t.second ∷ []

abbrev all : Told → List ℕ
all t = t.first ∷ t.second ∷ t.place ∷ []

-- what the caller has of the kind that it gave
abbrev kept : Refusal → List ℕ
kept (WrongKind e k) = payload k
kept (MissingSource s) = []
kept (InvalidSourceRange s) = []
kept (NotUtf8 s) = []
kept (InvalidInteger s) = []
kept (InvalidString s p) = []
kept (InvalidBitString s) = []
kept (InvalidMoney s) = []
kept (NoRoom n) = []
kept (InvalidDate s) = []

abbrev values_told : Refusal → List ℕ
values_told (NoRoom n) = last (refusal_told (NoRoom n))
values_told (WrongKind e k) = both (refusal_told (WrongKind e k))
values_told (MissingSource s) = both (refusal_told (MissingSource s))
values_told (InvalidSourceRange s) = both (refusal_told (InvalidSourceRange s))
values_told (NotUtf8 s) = both (refusal_told (NotUtf8 s))
values_told (InvalidInteger s) = both (refusal_told (InvalidInteger s))
values_told (InvalidString s p) = all (refusal_told (InvalidString s p))
values_told (InvalidBitString s) = both (refusal_told (InvalidBitString s))
values_told (InvalidMoney s) = both (refusal_told (InvalidMoney s))
values_told (InvalidDate s) = both (refusal_told (InvalidDate s))

pub refusal_values_lem : (r : Refusal) → values_told r ++ kept r ≡ refusal_values r
refusal_values_lem (WrongKind e k) = refl
refusal_values_lem (MissingSource s) = refl
refusal_values_lem (InvalidSourceRange s) = refl
refusal_values_lem (NotUtf8 s) = refl
refusal_values_lem (InvalidInteger s) = refl
refusal_values_lem (InvalidString s p) = refl
refusal_values_lem (InvalidBitString s) = refl
refusal_values_lem (InvalidMoney s) = refl
refusal_values_lem (NoRoom n) = refl
refusal_values_lem (InvalidDate s) = refl

-- a text's range, or its length
pub borrowed_values : (f u : ℕ) → both (text_told (Ok (Text'.Borrowed f u))) ≡ text_values (Ok (Text'.Borrowed f u))
borrowed_values f u = refl

pub written_values : (n : ℕ) → last (text_told (Ok (Text'.Written n))) ≡ text_values (Ok (Text'.Written n))
written_values n = refl

pub found_values_lem : (f u : ℕ) → both (range_told (Ok (part_at f u))) ≡ range_values (Ok (part_at f u))
found_values_lem f u = refl

pub named_values : (f u : ℕ) → both (charset_told (Ok (Some (part_at f u)))) ≡ charset_values (Ok (Some (part_at f u)))
named_values f u = refl

pub identifier_borrowed_values : (f u : ℕ) → both (identifier_told (Ok (Text'.Borrowed f u))) ≡ identifier_values (Ok (Text'.Borrowed f u))
identifier_borrowed_values f u = refl

pub identifier_written_values : (n : ℕ) → last (identifier_told (Ok (Text'.Written n))) ≡ identifier_values (Ok (Text'.Written n))
identifier_written_values n = refl

pub identifier_room_values : (n : ℕ) → last (identifier_told (Err (IdentifierError'.NoRoom n))) ≡ identifier_values (Err (IdentifierError'.NoRoom n))
identifier_room_values n = refl

pub writing_values_lem : (n : ℕ) → last (writing_told (Ok n)) ≡ writing_values (Ok n)
writing_values_lem n = refl

pub writing_room_values : (n : ℕ) → last (writing_told (Err (WritingError'.NoRoom n))) ≡ writing_values (Err (WritingError'.NoRoom n))
writing_room_values n = refl

-- a boolean's value stands where another answer says how
pub true_values : (truth_told (Ok true)).how ∷ [] ≡ truth_values (Ok true)
true_values = refl

pub false_values : (truth_told (Ok false)).how ∷ [] ≡ truth_values (Ok false)
false_values = refl

-- an integer's value stands in a number of its own
pub integer_values_lem : (z : ℤ) → integer_value (Ok z) ∷ [] ≡ integer_values (Ok z)
integer_values_lem z = refl

-- [02 T-05] a day's four
abbrev four : CalendarDay → List ℕ
four d = d.year ∷ d.month ∷ d.day ∷ d.number ∷ []

pub dated_values_lem : (d : CalendarDay) → four (dated_told (Ok d)).on ≡ dated_values (Ok d)
dated_values_lem d = refl

pub day_values_lem : (d : CalendarDay) → four (found_told (Some d)).on ≡ found_values (Some d)
day_values_lem d = refl

-- [02 T-07] the packed length second, and the bit count in a number of its own
abbrev packed : PackedTold → List ℕ
packed t = t.told.second ∷ t.bits ∷ []

pub packed_values_lem : (n b : ℕ) → packed (packed_told (Ok (packed_at n b))) ≡ packed_values (Ok (packed_at n b))
packed_values_lem n b = refl

pub bit_writing_values_lem : (n : ℕ) → last (bit_writing_told (Ok n)) ≡ bit_writing_values (Ok n)
bit_writing_values_lem n = refl

pub bit_writing_room_values : (n : ℕ) → last (bit_writing_told (Err (BitWritingError'.NoRoom n))) ≡ bit_writing_values (Err (BitWritingError'.NoRoom n))
bit_writing_room_values n = refl
