-- [02 T-03] Items, one after the other: the room that each finds, what is told of it, and what stands in the buffer at the end. Assumes nothing.
use mathlib.Core.Path.{◌≡◌, refl, ap, ap₂, sym, ◌∙◌, subst}
use mathlib.Core.List.{List, [], ◌∷◌, ◌++◌, append_assoc, flatten, map}
use Prim.Native.Nat.{ℕ, suc, ◌+◌, ◌-◌, ◌≤◌}
use native.Mathlib.Nat.{add-zero, add_assoc, add-sub_cancel_left}
use native.Mathlib.Omega.{arith}
use lib.ListN.{length, get_or, take, drop, length-append, length-drop, take-append-drop}
use lib.Seq.{length-take-le, take-append-add, take_at, drop_at, get_or_at, drop-drop}
use Rattle.meaning.specs.declared.Item.{Item}
use Rattle.meaning.specs.declared.Four.{Four}
use Rattle.meaning.specs.Bytes.{part}
use Rattle.meaning.specs.Blocks.{Asked, item_asked, Block, before, block_at}
use Rattle.laws.proofs.questions.Buffers.{filled_rest}
use Rattle.laws.proofs.questions.Items.{item_filled, length_written, item_took_told, moved, moved_asked, item_moved}
use Rattle.laws.proofs.questions.Items.{took_by, wrote_by, item_took, item_wrote, took_by_fits, wrote_by_length}

-- How many bytes they take together, each of the room as lent that the ones before it left; and which bytes each writes there
abbrev pub taken : List ℕ → List ℕ → List Item → ℕ
taken S room [] = 0
taken S room (i ∷ is) = took_by S room i + taken S (drop (took_by S room i) room) is

abbrev pub written_by : List ℕ → List ℕ → List Item → List (List ℕ)
written_by S room [] = []
written_by S room (i ∷ is) = wrote_by S room i ∷ written_by S (drop (took_by S room i) room) is

-- an item, asked behind others
abbrev pub asked_behind : List ℕ → ℕ → List ℕ → List Item → Item → Asked
asked_behind S used room is i = item_asked S (used + taken S room is) (drop (taken S room is) room) i

abbrev pub lengths_written : List Four → ℕ
lengths_written [] = 0
lengths_written (f ∷ fs) = length_written f + lengths_written fs

-- one block after another, of which the first took n bytes
abbrev pub blocks_joined : ℕ → Block → Block → Block
blocks_joined n a b = record { fours = a.fours ++ b.fours; buffer = take n a.buffer ++ b.buffer }

joined_before : (t n : ℕ) (a : Asked) (b c : Block) → length (take a.took a.room) ≡ t
    → before a (blocks_joined n b c) ≡ blocks_joined (t + n) (before a b) c
joined_before t n a b c h =
    ap (λ (l : List ℕ). record { fours = a.told ∷ (b.fours ++ c.fours); buffer = l })
    (sym (append_assoc w (take n b.buffer) c.buffer) ∙ ap (λ (l : List ℕ). l ++ c.buffer) (sym past))
  where
    w : List ℕ
    w = take a.took a.room

    past : take (t + n) (w ++ b.buffer) ≡ w ++ take n b.buffer
    past = subst (λ (k : ℕ). take (k + n) (w ++ b.buffer) ≡ w ++ take n b.buffer) h (take-append-add w b.buffer n)

module _ (S : List ℕ) where
  pub taken_fits : (room : List ℕ) (is : List Item) → taken S room is ≤ length room
  taken_fits room [] = omega arith
  taken_fits room (i ∷ is) =
      omega (arith, took_by_fits S room i, taken_fits (drop (took_by S room i) room) is, length-drop (took_by S room i) room)

  pub written_by_length : (room : List ℕ) (is : List Item) → length (flatten (written_by S room is)) ≡ taken S room is
  unfolding flatten
  written_by_length room [] = refl
  written_by_length room (i ∷ is) =
      let r : List ℕ = drop (took_by S room i) room in
      omega (arith, length-append (wrote_by S room i) (flatten (written_by S r is)), wrote_by_length S room i, written_by_length r is)

  -- the first item, and the others in the room that it left as lent
  block_first : (used : ℕ) (room : List ℕ) (i : Item) (is : List Item)
      → block_at S used room (i ∷ is) ≡ before (item_asked S used room i) (block_at S (used + took_by S room i) (drop (took_by S room i) room) is)
  block_first used room i is =
      ap (λ (l : List ℕ). before a (block_at S (used + a.took) l is)) (filled_rest (item_filled S used room i))
      ∙ ap (λ (n : ℕ). before a (block_at S (used + n) (drop n room) is)) (item_took S used room i)
    where
      a : Asked
      a = item_asked S used room i

  pub block_count : (used : ℕ) (room : List ℕ) (is : List Item) → length (block_at S used room is).fours ≡ length is
  block_count used room [] = refl
  block_count used room (i ∷ is) = ap suc (block_count (used + (item_asked S used room i).took) (drop (item_asked S used room i).took (item_asked S used room i).room) is)

  -- THE BUFFER: what is written, one after the other, and the rest as lent
  pub block_buffer : (used : ℕ) (room : List ℕ) (is : List Item)
      → (block_at S used room is).buffer ≡ flatten (written_by S room is) ++ drop (taken S room is) room
  unfolding flatten
  block_buffer used room [] = refl
  block_buffer used room (i ∷ is) =
      ap (λ (b : Block). b.buffer) (block_first used room i is)
      ∙ ap (λ (l : List ℕ). l ++ (block_at S (used + t) r is).buffer) (item_wrote S used room i)
      ∙ ap (λ (l : List ℕ). wrote_by S room i ++ l)
      (block_buffer (used + t) r is ∙ ap (λ (l : List ℕ). flatten (written_by S r is) ++ l) (drop-drop (taken S r is) t room))
      ∙ sym (append_assoc (wrote_by S room i) (flatten (written_by S r is)) (drop (t + taken S r is) room))
    where
      t : ℕ
      t = took_by S room i

      r : List ℕ
      r = drop t room

  pub block_length : (used : ℕ) (room : List ℕ) (is : List Item) → length (block_at S used room is).buffer ≡ length room
  block_length used room is =
      ap length (block_buffer used room is)
      ∙ omega (
        arith,
        length-append (flatten (written_by S room is)) (drop (taken S room is) room),
        written_by_length room is,
        length-drop (taken S room is) room,
        taken_fits room is,
      )

  pub block_rest : (used : ℕ) (room : List ℕ) (is : List Item) → drop (taken S room is) (block_at S used room is).buffer ≡ drop (taken S room is) room
  block_rest used room is =
      ap (drop (taken S room is)) (block_buffer used room is)
      ∙ drop_at (flatten (written_by S room is)) (drop (taken S room is) room) (taken S room is) (written_by_length room is)

  -- WHERE THE ROOM BEGINS: behind the lengths that are told as written
  pub block_room : (used : ℕ) (room : List ℕ) (is : List Item) → taken S room is ≡ lengths_written (block_at S used room is).fours
  block_room used room [] = refl
  block_room used room (i ∷ is) =
      let t : ℕ = took_by S room i in
      let e = ap (λ (b : Block). lengths_written b.fours) (block_first used room i is) in
      let h = sym (item_took S used room i) ∙ item_took_told S used room i in
      omega (arith, e, h, block_room (used + t) (drop t room) is)

  -- TWO BLOCKS: the second where the first left off
  pub block_append : (used : ℕ) (room : List ℕ) (is js : List Item)
      → block_at S used room (is ++ js)
      ≡ blocks_joined (taken S room is) (block_at S used room is) (block_at S (used + taken S room is) (drop (taken S room is) room) js)
  block_append used room [] js = ap (λ (n : ℕ). block_at S n room js) (sym (add-zero used))
  block_append used room (i ∷ is) js =
      block_first used room i (is ++ js)
      ∙ ap (before a) (block_append (used + t) r is js)
      ∙ joined_before t n a (block_at S (used + t) r is) (block_at S (used + t + n) (drop n r) js)
      (ap length (item_wrote S used room i) ∙ wrote_by_length S room i)
      ∙ ap (λ (b : Block). blocks_joined (t + n) b (block_at S (used + t + n) (drop n r) js)) (sym (block_first used room i is))
      ∙ ap (λ (l : List ℕ). blocks_joined (t + n) (block_at S used room (i ∷ is)) (block_at S (used + t + n) l js)) (drop-drop n t room)
      ∙ ap (λ (k : ℕ). blocks_joined (t + n) (block_at S used room (i ∷ is)) (block_at S k (drop (t + n) room) js)) (add_assoc used t n)
    where
      a : Asked
      a = item_asked S used room i

      t : ℕ
      t = took_by S room i

      r : List ℕ
      r = drop t room

      n : ℕ
      n = taken S r is

  -- THE ITEM i among others: its four, behind those of the items before it
  module _ (used : ℕ) (room : List ℕ) (is : List Item) (i : Item) (js : List Item) where
    abbrev whole : Block
    whole = block_at S used room (is ++ (i ∷ js))

    -- how many bytes are taken before it; the item, asked there; and how many it takes
    abbrev n : ℕ
    n = taken S room is

    abbrev single : Asked
    single = asked_behind S used room is i

    abbrev t : ℕ
    t = took_by S (drop n room) i

    abbrev after : Block
    after = block_at S (used + n + t) (drop t (drop n room)) js

    around : whole ≡ blocks_joined n (block_at S used room is) (before single after)
    around =
        block_append used room is (i ∷ js) ∙ ap (blocks_joined n (block_at S used room is)) (block_first (used + n) (drop n room) i js)

    pub block_item : whole.fours ≡ (block_at S used room is).fours ++ (single.told ∷ after.fours)
    block_item = ap (λ (b : Block). b.fours) around

    pub block_four : (f : Four) → get_or whole.fours (length is) f ≡ single.told
    block_four f =
        ap (λ (l : List Four). get_or l (length is) f) block_item
        ∙ get_or_at (block_at S used room is).fours single.told after.fours f (length is) (block_count used room is)

    -- and its bytes: what is written for it is not touched by a later one
    pub block_bytes : part n (n + single.took) whole.buffer ≡ take single.took single.room
    block_bytes =
        ap (λ (b : Block). part n (n + single.took) b.buffer) around
        ∙ ap (take (n + single.took - n)) (drop_at front (w ++ after.buffer) n front_length)
        ∙ take_at w after.buffer (n + single.took - n) (w_length ∙ sym (add-sub_cancel_left n single.took))
      where
        front : List ℕ
        front = take n (block_at S used room is).buffer

        front_length : length front ≡ n
        front_length = length-take-le n (block_at S used room is).buffer (omega (arith, block_length used room is, taken_fits room is))

        w : List ℕ
        w = take single.took single.room

        w_length : length w ≡ single.took
        w_length =
            ap length (item_wrote S (used + n) (drop n room) i) ∙ wrote_by_length S (drop n room) i ∙ sym (item_took S (used + n) (drop n room) i)

    -- LEFT OUT, where it takes nothing: the buffer is the same, and the fours are those of the others, with its own among them
    module _ (none : single.took ≡ 0) where
      abbrev others : Block
      others = block_at S used room (is ++ js)

      without : whole ≡ blocks_joined n (block_at S used room is) (before single (block_at S (used + n) (drop n room) js))
      without =
          around
          ∙ ap (λ (k : ℕ). blocks_joined n (block_at S used room is) (before single (block_at S (used + n + k) (drop k (drop n room)) js)))
          (sym (item_took S (used + n) (drop n room) i) ∙ none)
          ∙ ap (λ (k : ℕ). blocks_joined n (block_at S used room is) (before single (block_at S k (drop n room) js))) (add-zero (used + n))

      pub block_out_buffer : whole.buffer ≡ others.buffer
      block_out_buffer =
          ap (λ (b : Block). b.buffer) without
          ∙ ap (λ (k : ℕ). take n (block_at S used room is).buffer ++ (take k single.room ++ (block_at S (used + n) (drop n room) js).buffer)) none
          ∙ sym (ap (λ (b : Block). b.buffer) (block_append used room is js))

      pub block_out_fours : whole.fours ≡ take (length is) others.fours ++ (single.told ∷ drop (length is) others.fours)
      block_out_fours =
          ap (λ (b : Block). b.fours) without
          ∙ ap₂ (λ (x y : List Four). x ++ (single.told ∷ y)) (sym front) (sym behind)
        where
          fs : List Four
          fs = (block_at S used room is).fours

          gs : List Four
          gs = (block_at S (used + n) (drop n room) js).fours

          front : take (length is) others.fours ≡ fs
          front = ap (λ (b : Block). take (length is) b.fours) (block_append used room is js) ∙ take_at fs gs (length is) (block_count used room is)

          behind : drop (length is) others.fours ≡ gs
          behind = ap (λ (b : Block). drop (length is) b.fours) (block_append used room is js) ∙ drop_at fs gs (length is) (block_count used room is)

  -- FURTHER ON in a buffer: the fours of written texts move, and nothing else
  pub block_moved : (used m : ℕ) (room : List ℕ) (is : List Item)
      → block_at S (used + m) room is ≡ record { fours = map (moved m) (block_at S used room is).fours; buffer = (block_at S used room is).buffer }
  block_moved used m room [] = refl
  block_moved used m room (i ∷ is) =
      ap (λ (x : Asked). before x (block_at S (used + m + x.took) (drop x.took x.room) is)) (item_moved S used m room i)
      ∙ ap (λ (k : ℕ). before (moved_asked m a) (block_at S k r is)) swap
      ∙ ap (before (moved_asked m a)) (block_moved (used + a.took) m r is)
    where
      a : Asked
      a = item_asked S used room i

      r : List ℕ
      r = drop a.took a.room

      swap : used + m + a.took ≡ used + a.took + m
      swap = omega arith

  -- ONE ITEM alone
  pub block_one : (used : ℕ) (room : List ℕ) (i : Item)
      → block_at S used room (i ∷ []) ≡ record { fours = (item_asked S used room i).told ∷ []; buffer = (item_asked S used room i).room }
  block_one used room i =
      ap (λ (l : List ℕ). record { fours = (item_asked S used room i).told ∷ []; buffer = l })
      (take-append-drop (item_asked S used room i).took (item_asked S used room i).room)
