-- [02 T-03] One item: what is told of it, what it takes of the room, and that neither depends on where the room begins, but for a written text's start.
-- Assumes nothing.
use mathlib.Core.Path.{◌≡◌, refl, ap, sym, ◌∙◌}
use mathlib.Core.Bool.{Bool, true, false}
use mathlib.Core.List.{List, []}
use Prim.Native.Nat.{ℕ, ◌+◌, ◌≤◌}
use native.Mathlib.Nat.{zero-add}
use native.Mathlib.Omega.{arith}
use lib.Dec.{eqb}
use lib.ListN.{length, take}
use lib.Seq.{length-take-le}
use Rattle.meaning.specs.declared.Item.{Item}
use Rattle.meaning.specs.declared.Four.{Four}
use Rattle.meaning.specs.declared.Refusal.{Refusal}
use Rattle.meaning.specs.declared.Refusal.TheVariants.{WrongKind, MissingSource, InvalidSourceRange, NotUtf8, InvalidInteger, InvalidString}
use Rattle.meaning.specs.declared.Refusal.TheVariants.{InvalidBitString, InvalidMoney, NoRoom, InvalidDate}
use Rattle.meaning.specs.declared.Text.{Text}
use Rattle.meaning.specs.declared.Text.TheVariants as Text'
use Rattle.std.specs.Prelude.{if◌then◌else◌}
use Rattle.meaning.specs.Answers.{Outcome, refusal_number}
use Rattle.meaning.specs.Codes.{is_known, literal_of, settings_of}
use Rattle.meaning.specs.Blocks.{four, refused_four, four_of, takes, Asked, item_question, asked_as, item_asked}
use Rattle.laws.proofs.questions.Buffers.{Filled, filled_length, TextLeaves, string_question_leaves}
use Rattle.std.specs.Prelude.{Result, Ok, Err}

-- Not known: 10, and the room as it was
abbrev pub unknown : List ℕ → Asked
unknown room = record { told = four 10 0 0 0; took = 0; room = room }

module _ (S : List ℕ) (used : ℕ) (room : List ℕ) (i : Item) where
  pub item_known : is_known i.kind 0 i.setting ≡ true → item_asked S used room i ≡ asked_as used (item_question S room i)
  unfolding item_asked
  item_known h = rw h

  pub item_unknown : is_known i.kind 0 i.setting ≡ false → item_asked S used room i ≡ unknown room
  unfolding item_asked
  item_unknown h = rw h

  -- what holds of both holds of it
  pub item_either : (P : Asked → Type 0) → P (asked_as used (item_question S room i)) → P (unknown room) → P (item_asked S used room i)
  unfolding item_asked
  item_either P a b = go (is_known i.kind 0 i.setting)
    where
      go : (x : Bool) → P (if x then asked_as used (item_question S room i) else unknown room)
      go true = a
      go false = b

-- a borrowed or refused text takes none of the room, a written one its front
leaves_filled : (room after : List ℕ) (a : Result Text Refusal) → TextLeaves room a after → Filled (takes a) room after
leaves_filled room after (Ok (Text'.Borrowed f u)) e = record { value = []; size = refl; room = omega arith; bytes = e }
leaves_filled room after (Ok (Text'.Written n)) h = h
leaves_filled room after (Err r) e = record { value = []; size = refl; room = omega arith; bytes = e }

pub item_filled : (S : List ℕ) (used : ℕ) (room : List ℕ) (i : Item) → Filled (item_asked S used room i).took room (item_asked S used room i).room
item_filled S used room i =
    item_either S used room i (λ (a : Asked). Filled a.took room a.room)
    (leaves_filled room (item_question S room i).buffer (item_question S room i).answer
    (string_question_leaves (literal_of i.kind 0 i.start i.end) S room (settings_of i.setting)))
    (record { value = []; size = refl; room = omega arith; bytes = refl })

-- a refusal's four: its number, a place or a length
pub refused_told : (r : Refusal) → refused_four r ≡ four (refusal_number r) 0 (refused_four r).start (refused_four r).len
refused_told (WrongKind e k) = refl
refused_told (MissingSource s) = refl
refused_told (InvalidSourceRange s) = refl
refused_told (NotUtf8 s) = refl
refused_told (InvalidInteger s) = refl
refused_told (InvalidString s p) = refl
refused_told (InvalidBitString s) = refl
refused_told (InvalidMoney s) = refl
refused_told (NoRoom n) = refl
refused_told (InvalidDate s) = refl

-- what it takes is told: the length of a written text, and else nothing
abbrev pub length_written : Four → ℕ
length_written f = if eqb f.how 2 then f.len else 0

takes_told : (used : ℕ) (a : Result Text Refusal) → takes a ≡ length_written (four_of used a)
takes_told used (Ok (Text'.Borrowed f u)) = refl
takes_told used (Ok (Text'.Written n)) = refl
takes_told used (Err r) = sym (ap length_written (refused_told r))

pub item_took_told : (S : List ℕ) (used : ℕ) (room : List ℕ) (i : Item) → (item_asked S used room i).took ≡ length_written (item_asked S used room i).told
item_took_told S used room i =
    item_either S used room i (λ (a : Asked). a.took ≡ length_written a.told) (takes_told used (item_question S room i).answer) refl

-- so a refused item takes none
takes_refused : (used : ℕ) (a : Result Text Refusal) → ((four_of used a).number ≡ 0 → ⊥) → takes a ≡ 0
takes_refused used (Ok (Text'.Borrowed f u)) h = refl
takes_refused used (Ok (Text'.Written n)) h = absurd (h refl)
takes_refused used (Err r) h = refl

pub item_refused_took : (S : List ℕ) (used : ℕ) (room : List ℕ) (i : Item) → ((item_asked S used room i).told.number ≡ 0 → ⊥)
    → (item_asked S used room i).took ≡ 0
item_refused_took S used room i =
    item_either S used room i (λ (a : Asked). (a.told.number ≡ 0 → ⊥) → a.took ≡ 0) (takes_refused used (item_question S room i).answer) (λ h. refl)

-- FURTHER ON in the buffer by m bytes: a written text begins there, and nothing else moves
abbrev pub moved : ℕ → Four → Four
moved m f = four f.number f.how (if eqb f.how 2 then f.start + m else f.start) f.len

four_moved : (used m : ℕ) (a : Result Text Refusal) → four_of (used + m) a ≡ moved m (four_of used a)
four_moved used m (Ok (Text'.Borrowed f u)) = refl
four_moved used m (Ok (Text'.Written n)) = refl
four_moved used m (Err r) = refused_told r ∙ sym (ap (moved m) (refused_told r))

abbrev pub moved_asked : ℕ → Asked → Asked
moved_asked m a = record { told = moved m a.told; took = a.took; room = a.room }

pub item_moved : (S : List ℕ) (used m : ℕ) (room : List ℕ) (i : Item) → item_asked S (used + m) room i ≡ moved_asked m (item_asked S used room i)
unfolding item_asked
item_moved S used m room i = go (is_known i.kind 0 i.setting)
  where
    o : Outcome (Result Text Refusal)
    o = item_question S room i

    go : (x : Bool) → (if x then asked_as (used + m) o else unknown room) ≡ moved_asked m (if x then asked_as used o else unknown room)
    go true = ap (λ (f : Four). record { told = f; took = takes o.answer; room = o.buffer }) (four_moved used m o.answer)
    go false = refl

-- how many bytes it takes, and which, wherever the room begins
abbrev pub took_by : List ℕ → List ℕ → Item → ℕ
took_by S room i = (item_asked S 0 room i).took

abbrev pub wrote_by : List ℕ → List ℕ → Item → List ℕ
wrote_by S room i = take (took_by S room i) (item_asked S 0 room i).room

module _ (S : List ℕ) (used : ℕ) (room : List ℕ) (i : Item) where
  from_front : item_asked S used room i ≡ moved_asked used (item_asked S 0 room i)
  from_front = ap (λ (n : ℕ). item_asked S n room i) (sym (zero-add used)) ∙ item_moved S 0 used room i

  pub item_took : (item_asked S used room i).took ≡ took_by S room i
  item_took = ap (λ (a : Asked). a.took) from_front

  pub item_wrote : take (item_asked S used room i).took (item_asked S used room i).room ≡ wrote_by S room i
  item_wrote = ap (λ (a : Asked). take a.took a.room) from_front

pub took_by_fits : (S room : List ℕ) (i : Item) → took_by S room i ≤ length room
took_by_fits S room i = (item_filled S 0 room i).room

pub wrote_by_length : (S room : List ℕ) (i : Item) → length (wrote_by S room i) ≡ took_by S room i
wrote_by_length S room i =
    let f = item_filled S 0 room i in
    length-take-le (took_by S room i) (item_asked S 0 room i).room (omega (arith, f.room, filled_length f))
