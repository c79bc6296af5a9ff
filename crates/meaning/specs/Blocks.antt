-- [02 T-03] A block of string literals in one call. Assumes nothing.
use Rattle.std.specs.Prelude.{Bool, ◌||◌, not, ◌≡◌, List, [], ◌∷◌, ◌++◌, ℕ, ◌+◌, ◌-◌, ◌%◌, eqb, ltb, length, take, drop}
use Rattle.meaning.specs.declared.Item.{Item}
use Rattle.meaning.specs.declared.Four.{Four}
use Rattle.meaning.specs.declared.Refusal.{Refusal}
use Rattle.meaning.specs.declared.Refusal.TheVariants.{WrongKind, MissingSource, InvalidSourceRange, NotUtf8, InvalidInteger, InvalidString}
use Rattle.meaning.specs.declared.Refusal.TheVariants.{InvalidBitString, InvalidMoney, NoRoom, InvalidDate}
use Rattle.meaning.specs.declared.Text.{Text}
use Rattle.meaning.specs.declared.Text.TheVariants as Text'
use Rattle.std.specs.Prelude.{if◌then◌else◌}
use Rattle.meaning.specs.Answers.{Outcome}
use Rattle.meaning.specs.Questions.{string_question}
use Rattle.meaning.specs.Codes.{is_known, literal_of, settings_of}
use Rattle.std.specs.Prelude.{Result, Ok, Err}

-- "four per item: kind code, setting, start, end". (A call that is answered has them in fours)
abbrev pub items_of : List ℕ → List Item
items_of [] = []
items_of (k ∷ []) = []
items_of (k ∷ (g ∷ [])) = []
items_of (k ∷ (g ∷ (s ∷ []))) = []
items_of (k ∷ (g ∷ (s ∷ (e ∷ ns)))) = record { kind = k; setting = g; start = s; end = e } ∷ items_of ns

-- "Output is four per item: number, how (0 none, 1 borrowed, 2 written), start, length"
abbrev pub numbers_of : List Four → List ℕ
numbers_of [] = []
numbers_of (f ∷ fs) = f.number ∷ (f.how ∷ (f.start ∷ (f.len ∷ numbers_of fs)))

abbrev pub four : ℕ → ℕ → ℕ → ℕ → Four
four number how start len = record { number = number; how = how; start = start; len = len }

-- "on 9 the length is the length needed, and where nothing else is said a field is zero". [02 T-04] "T-03 puts the place in its start field". (No item is
-- refused by 2, 5, 7, 8 or 14)
abbrev pub refused_four : Refusal → Four
refused_four (WrongKind e k) = four 1 0 0 0
refused_four (MissingSource s) = four 2 0 0 0
refused_four (InvalidSourceRange s) = four 3 0 0 0
refused_four (NotUtf8 s) = four 4 0 0 0
refused_four (InvalidInteger s) = four 5 0 0 0
refused_four (InvalidString s p) = four 6 0 p 0
refused_four (InvalidBitString s) = four 7 0 0 0
refused_four (InvalidMoney s) = four 8 0 0 0
refused_four (NoRoom n) = four 9 0 0 n
refused_four (InvalidDate s) = four 14 0 0 0

-- "A borrowed start is in the source, a written one in the buffer", of which `used` bytes are taken
abbrev pub four_of : ℕ → Result Text Refusal → Four
four_of used (Ok (Text'.Borrowed f u)) = four 0 1 f (u - f)
four_of used (Ok (Text'.Written n)) = four 0 2 used n
four_of used (Err r) = refused_four r

-- "a refused item takes no room", and a borrowed one none
abbrev pub takes : Result Text Refusal → ℕ
takes (Ok (Text'.Borrowed f u)) = 0
takes (Ok (Text'.Written n)) = n
takes (Err r) = 0

-- ONE ITEM: what is told of it, how many bytes it takes, and the room then
pub record Asked : Type 0 where
  pub told : Four
  pub took : ℕ
  pub room : List ℕ

-- the single call, "never synthetic"
abbrev pub item_question : List ℕ → List ℕ → Item → Outcome (Result Text Refusal)
item_question source room i = string_question (literal_of i.kind 0 i.start i.end) source (settings_of i.setting) room

abbrev pub asked_as : ℕ → Outcome (Result Text Refusal) → Asked
asked_as used o = record { told = four_of used o.answer; took = takes o.answer; room = o.buffer }

-- "10 for an unknown kind code or a setting other than 0 or 1, ahead of 1"
unfoldable pub item_asked : List ℕ → ℕ → List ℕ → Item → Asked
item_asked source used room i =
    if is_known i.kind 0 i.setting then asked_as used (item_question source room i)
    else record { told = four 10 0 0 0; took = 0; room = room }

-- ALL ITEMS. "Each item gets the answer of a single call with the room still left"
pub record Block : Type 0 where
  pub fours : List Four
  pub buffer : List ℕ

abbrev pub before : Asked → Block → Block
before a b = record { fours = a.told ∷ b.fours; buffer = take a.took a.room ++ b.buffer }

abbrev pub block_at : List ℕ → ℕ → List ℕ → List Item → Block
block_at source used room [] = record { fours = []; buffer = room }
block_at source used room (i ∷ is) =
    before (item_asked source used room i)
    (block_at source (used + (item_asked source used room i).took) (drop (item_asked source used room i).took (item_asked source used room i).room) is)

-- THE CALL. "15 first, for the whole call with nothing written, if the input isn't in fours, the answer slice is shorter, or the output buffer is longer
-- than 4,294,967,295 bytes"
unfoldable pub bad_block : List ℕ → List ℕ → List ℕ → Bool
bad_block items answers out = not (eqb (length items % 4) 0) || ltb (length answers) (length items) || ltb 4294967295 (length out)

-- what the call returns, and all that the two lent slices then hold
pub record BlockOutcome : Type 0 where
  pub number : ℕ
  pub answers : List ℕ
  pub buffer : List ℕ

-- "Past the items the answer slice is unchanged"
abbrev pub block_told : List ℕ → Block → BlockOutcome
block_told answers b = record { number = 0; answers = numbers_of b.fours ++ drop (length (numbers_of b.fours)) answers; buffer = b.buffer }

unfoldable pub block_call : List ℕ → List ℕ → List ℕ → List ℕ → BlockOutcome
block_call items source answers out =
    if bad_block items answers out then record { number = 15; answers = answers; buffer = out }
    else block_told answers (block_at source 0 out (items_of items))

-- what the contract says: the result, and every number and byte of the lent slices
pub record Blocks (o : BlockOutcome) (r : ℕ) (answers out : List ℕ) : Type 0 where
  pub result : r ≡ o.number
  pub told : answers ≡ o.answers
  pub buffer : out ≡ o.buffer
