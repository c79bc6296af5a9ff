-- [02 T-03] Room, of a block: an item takes no more than its span less two bytes, so a buffer as long as these together has room for every item. Of the block,
-- and of what calls return. Assumes nothing.
use mathlib.Core.Path.{◌≡◌, ap, sym, ◌∙◌}
use mathlib.Core.List.{List, [], ◌∷◌, ◌++◌}
use Prim.Native.Nat.{ℕ, ◌+◌, ◌-◌, ◌%◌, ◌≤◌, ◌<◌}
use native.Mathlib.Omega.{arith}
use lib.ListN.{length, take, drop, length-drop}
use Rattle.meaning.specs.declared.Item.{Item}
use Rattle.meaning.specs.declared.Four.{Four}
use Rattle.meaning.specs.declared.Refusal.{Refusal}
use Rattle.meaning.specs.declared.Refusal.TheVariants.{WrongKind, MissingSource, InvalidSourceRange, NotUtf8, InvalidInteger, InvalidString}
use Rattle.meaning.specs.declared.Refusal.TheVariants.{InvalidBitString, InvalidMoney, NoRoom, InvalidDate}
use Rattle.meaning.specs.declared.Text.{Text}
use Rattle.meaning.specs.declared.Text.TheVariants as Text'
use Rattle.meaning.specs.Bytes.{◌!◌}
use Rattle.meaning.specs.Codes.{literal_of, settings_of}
use Rattle.meaning.specs.Blocks.{items_of, numbers_of, refused_four, four_of, takes, Asked, item_question, item_asked}
use Rattle.laws.proofs.questions.Items.{item_either, took_by}
use Rattle.laws.proofs.questions.Blocks.{taken}
use Rattle.laws.proofs.questions.BlockCalls.{answered_admitted, items_append, call_item}
use Rattle.laws.proofs.questions.BlockReturns.{BlockCall}
use Rattle.laws.proofs.room.Told.{RefusalNeeds, TextNeeds}
use Rattle.laws.proofs.room.Values.{Less}
use Rattle.laws.proofs.room.Asked.{string_needs}
use Rattle.std.specs.Prelude.{Result, Ok, Err}

-- the room that an item can take, and that all together can
abbrev pub item_room : Item → ℕ
item_room i = i.end - i.start - 2

abbrev pub room_of : List Item → ℕ
room_of [] = 0
room_of (i ∷ is) = item_room i + room_of is

-- which is no more than their spans together
abbrev pub spans_of : List Item → ℕ
spans_of [] = 0
spans_of (i ∷ is) = i.end - i.start + spans_of is

pub room_spans : (is : List Item) → room_of is ≤ spans_of is
room_spans [] = omega arith
room_spans (i ∷ is) = omega (arith, room_spans is)

room_append : (is js : List Item) → room_of (is ++ js) ≡ room_of is + room_of js
room_append [] js = omega arith
room_append (i ∷ is) js = omega (arith, room_append is js)

-- AN ANSWER, told in four, in a span of k bytes: it takes no more than k - 2 bytes, and with a 9 it tells a length that is no more, for which there is no room
record FourNeeds (k m : ℕ) (f : Four) (took : ℕ) : Type 0 where
  takes : took ≤ k - 2
  needs : f.number ≡ 9 → (f.len + 2 ≤ k) × (m < f.len)

refused_needs : (k m : ℕ) (r : Refusal) → RefusalNeeds (Less 2 k) m r → FourNeeds k m (refused_four r) 0
refused_needs k m (NoRoom n) h = record { takes = omega arith; needs = λ e. h }
refused_needs k m (WrongKind x y) h = record { takes = omega arith; needs = λ e. absurd (omega arith) }
refused_needs k m (MissingSource s) h = record { takes = omega arith; needs = λ e. absurd (omega arith) }
refused_needs k m (InvalidSourceRange s) h = record { takes = omega arith; needs = λ e. absurd (omega arith) }
refused_needs k m (NotUtf8 s) h = record { takes = omega arith; needs = λ e. absurd (omega arith) }
refused_needs k m (InvalidInteger s) h = record { takes = omega arith; needs = λ e. absurd (omega arith) }
refused_needs k m (InvalidString s p) h = record { takes = omega arith; needs = λ e. absurd (omega arith) }
refused_needs k m (InvalidBitString s) h = record { takes = omega arith; needs = λ e. absurd (omega arith) }
refused_needs k m (InvalidMoney s) h = record { takes = omega arith; needs = λ e. absurd (omega arith) }
refused_needs k m (InvalidDate s) h = record { takes = omega arith; needs = λ e. absurd (omega arith) }

four_needs : (k m used : ℕ) (a : Result Text Refusal) → TextNeeds (Less 2 k) m a → FourNeeds k m (four_of used a) (takes a)
four_needs k m used (Ok (Text'.Borrowed f u)) h = record { takes = omega arith; needs = λ e. absurd (omega arith) }
four_needs k m used (Ok (Text'.Written n)) h = record { takes = omega arith; needs = λ e. absurd (omega arith) }
four_needs k m used (Err r) h = refused_needs k m r h

item_needs : (S : List ℕ) (used : ℕ) (room : List ℕ) (i : Item)
    → FourNeeds (i.end - i.start) (length room) (item_asked S used room i).told (item_asked S used room i).took
item_needs S used room i =
    item_either S used room i (λ (a : Asked). FourNeeds (i.end - i.start) (length room) a.told a.took)
    (four_needs (i.end - i.start) (length room) used (item_question S room i).answer
    (string_needs (literal_of i.kind 0 i.start i.end) S room (settings_of i.setting)))
    (record { takes = omega arith; needs = λ e. absurd (omega arith) })

-- BEHIND OTHERS
module _ (S : List ℕ) where
  pub taken_room : (room : List ℕ) (is : List Item) → taken S room is ≤ room_of is
  taken_room room [] = omega arith
  taken_room room (i ∷ is) = omega (arith, (item_needs S 0 room i).takes, taken_room (drop (took_by S room i) room) is)

  -- wherever the room begins that they left
  module _ (used : ℕ) (room : List ℕ) (is : List Item) (i : Item) where
    pub block_nine : (item_asked S used (drop (taken S room is) room) i).told.number ≡ 9
        → (item_asked S used (drop (taken S room is) room) i).told.len + 2 ≤ i.end - i.start
    block_nine e = ((item_needs S used (drop (taken S room is) room) i).needs e).0

    pub block_never : room_of is + item_room i ≤ length room → (item_asked S used (drop (taken S room is) room) i).told.number ≡ 9 → ⊥
    block_never h e =
        let n = (item_needs S used (drop (taken S room is) room) i).needs e in
        omega (arith, n.0, n.1, taken_room room is, length-drop (taken S room is) room)

-- OF CALLS: of every item, behind the numbers a, of a call that is answered
module _ (a : List ℕ) (k g s e : ℕ) (b S : List ℕ) (f : length a % 4 ≡ 0) (c : BlockCall (a ++ (k ∷ (g ∷ (s ∷ (e ∷ b))))) S) (z : c.result ≡ 0) where
  abbrev item : Item
  item = record { kind = k; setting = g; start = s; end = e }

  abbrev before : ℕ
  before = taken S c.lent (items_of a)

  told_is : take 4 (drop (length a) c.told) ≡ numbers_of ((item_asked S before (drop before c.lent) item).told ∷ [])
  told_is =
      ap (λ (l : List ℕ). take 4 (drop (length a) l)) c.contract.told
      ∙ call_item a k g s e b S c.answers c.lent f
      (answered_admitted (a ++ (k ∷ (g ∷ (s ∷ (e ∷ b))))) S c.answers c.lent (sym c.contract.result ∙ z))

  pub block_nine_calls : take 4 (drop (length a) c.told) ! 0 ≡ 9 → take 4 (drop (length a) c.told) ! 3 + 2 ≤ e - s
  block_nine_calls h =
      omega (arith, ap (◌! 3) told_is, block_nine S before c.lent (items_of a) item (sym (ap (◌! 0) told_is) ∙ h))

  pub block_never_calls : room_of (items_of (a ++ (k ∷ (g ∷ (s ∷ (e ∷ b)))))) ≤ length c.lent → take 4 (drop (length a) c.told) ! 0 ≡ 9 → ⊥
  block_never_calls r h =
      let q = ap room_of (items_append a (k ∷ (g ∷ (s ∷ (e ∷ b)))) f) ∙ room_append (items_of a) (item ∷ items_of b) in
      block_never S before c.lent (items_of a) item (omega (arith, q, r)) (sym (ap (◌! 0) told_is) ∙ h)
