-- [02 T-03] The block, of what calls return: whatever its contract permits, and the single question's, an item gets the answer and the bytes of a single call
-- with the room still left; a call without a refused item leaves the same and tells the same of the others; and two block calls, one after the other on what
-- is left, agree with the one. Assumes nothing.
use mathlib.Core.Path.{◌≡◌, ap, ap₂, sym, ◌∙◌, subst}
use mathlib.Core.Bool.{true, false}
use mathlib.Core.List.{List, [], ◌∷◌, ◌++◌, flatten}
use Prim.Native.Nat.{ℕ, ◌+◌, ◌-◌, ◌%◌, ◌≤◌}
use native.Mathlib.Nat.{sub-zero}
use native.Mathlib.Omega.{arith}
use lib.Dec.{eqb}
use lib.ListN.{length, take, drop, length-append, length-drop}
use lib.Seq.{take-take}
use Rattle.meaning.specs.declared.Item.{Item}
use Rattle.meaning.specs.declared.Four.{Four}
use Rattle.meaning.specs.declared.Text.{Text}
use Rattle.meaning.specs.declared.Text.TheVariants as Text'
use Rattle.meaning.specs.Bytes.{◌!◌, part}
use Rattle.std.specs.Prelude.{if◌then◌else◌}
use Rattle.meaning.specs.Answers.{Meets, part_shown, shown}
use Rattle.meaning.specs.Questions.{string_question}
use Rattle.meaning.specs.Codes.{is_known, literal_of, settings_of}
use Rattle.meaning.specs.Blocks.{items_of, numbers_of, four_of, takes, Asked, item_asked, asked_as, BlockOutcome, block_call, Blocks}
use Rattle.laws.proofs.basics.Lists.{drop_take}
use Rattle.laws.proofs.questions.Ranges.{part_shown_range}
use Rattle.laws.proofs.questions.Buffers.{Filled, filled_length}
use Rattle.laws.proofs.questions.Items.{item_known, item_unknown, item_refused_took, item_filled, refused_told}
use Rattle.laws.proofs.questions.Blocks.{taken, written_by, taken_fits}
use Rattle.laws.proofs.questions.Fits.{TextFits, string_fits}
use Rattle.laws.proofs.questions.BlockCalls.{Admitted, answered_admitted, call_is, call_written, block_leaves, lengths_told, call_taken}
use Rattle.laws.proofs.questions.BlockCalls.{call_item, call_bytes, call_out_told, call_out_buffer, call_begins}
use Rattle.laws.proofs.questions.BlockSplits.{moved_starts, first_admitted, second_admitted, block_split}
use Rattle.std.specs.Prelude.{Result, Ok, Err}
use Rattle.meaning.specs.declared.Refusal.{Refusal}

-- A CALL of the block: what went in, and what came out
pub record BlockCall (items S : List ℕ) : Type 0 where
  pub answers : List ℕ
  pub lent : List ℕ
  pub result : ℕ
  pub told : List ℕ
  pub after : List ℕ
  pub contract : Blocks (block_call items S answers lent) result told after

call_admitted : {items S : List ℕ} (c : BlockCall items S) → c.result ≡ 0 → Admitted items c.answers c.lent
call_admitted {items} {S} c z = answered_admitted items S c.answers c.lent (sym c.contract.result ∙ z)

-- THE BUFFER then: what is written, one after the other, and the rest as lent
pub calls_written : {items S : List ℕ} (c : BlockCall items S) → c.result ≡ 0
    → c.after ≡ flatten (written_by S c.lent (items_of items)) ++ drop (taken S c.lent (items_of items)) c.lent
calls_written {items} {S} c z = c.contract.buffer ∙ call_written items S c.answers c.lent (call_admitted c z)

-- WHAT A FOUR SHOWS: "A borrowed start is in the source, a written one in the buffer"
abbrev pub four_shown : List ℕ → List ℕ → Four → List ℕ
four_shown source out f =
    if eqb f.how 1 then part_shown f.start (f.start + f.len) source
    else if eqb f.how 2 then part_shown f.start (f.start + f.len) out
    else []

-- of an answer whose bytes stand in the buffer from b on
four_shows : (S after d : List ℕ) (b e m : ℕ) → b + m ≤ length after → length d ≡ m → (r : Result Text Refusal) → TextFits e m r
    → part b (b + takes r) after ≡ take (takes r) d → four_shown S after (four_of b r) ≡ shown S d r
four_shows S after d b e m l k (Ok (Text'.Borrowed f u)) t p = let z : f + (u - f) ≡ u = omega arith in ap (λ (v : ℕ). part_shown f v S) z
four_shows S after d b e m l k (Ok (Text'.Written n)) t p =
    part_shown_range b (b + n) after (record { ordered = omega arith; inside = omega arith })
    ∙ p
    ∙ sym (part_shown_range 0 n d (record { ordered = omega arith; inside = omega arith }) ∙ ap (λ (v : ℕ). take v d) (sub-zero n))
four_shows S after d b e m l k (Err x) t p = ap (four_shown S after) (refused_told x)

-- WHERE THE ROOM BEGINS behind the first n numbers of a call's answers
abbrev pub room_from : {items S : List ℕ} → BlockCall items S → ℕ → ℕ
room_from c n = lengths_told (take n c.told)

-- the item whose four is the next one got the answer r and the buffer d of a single call: what is told of it, its bytes, and what it shows
pub record Returned {items S : List ℕ} (c : BlockCall items S) (n : ℕ) (r : Result Text Refusal) (d : List ℕ) : Type 0 where
  pub told : take 4 (drop n c.told) ≡ numbers_of (four_of (room_from c n) r ∷ [])
  pub bytes : part (room_from c n) (room_from c n + takes r) c.after ≡ take (takes r) d
  pub shows : four_shown S c.after (four_of (room_from c n) r) ≡ shown S d r

-- call v leaves out an item behind the numbers a, of those that call c has: the same buffer at the end, and the same told of the others
pub record LeavesOut (a b S : List ℕ) {items : List ℕ} (c : BlockCall items S) (v : BlockCall (a ++ b) S) : Type 0 where
  pub told : take (length items) c.told
      ≡ take (length a) v.told ++ (take 4 (drop (length a) c.told) ++ take (length b) (drop (length a) v.told))
  pub bytes : c.after ≡ v.after

-- ONE ITEM, behind the items a
module _ (a : List ℕ) (k g s e : ℕ) (b S : List ℕ) (f : length a % 4 ≡ 0) (c : BlockCall (a ++ (k ∷ (g ∷ (s ∷ (e ∷ b))))) S) (z : c.result ≡ 0) where
  abbrev begins : ℕ
  begins = room_from c (length a)

  abbrev n : ℕ
  n = taken S c.lent (items_of a)

  abbrev i : Item
  i = record { kind = k; setting = g; start = s; end = e }

  admitted : Admitted (a ++ (k ∷ (g ∷ (s ∷ (e ∷ b))))) c.answers c.lent
  admitted = call_admitted c z

  begins_is : begins ≡ n
  begins_is =
      ap (λ (l : List ℕ). lengths_told (take (length a) l)) c.contract.told ∙ call_begins a k g s e b S c.answers c.lent f admitted

  told_is : take 4 (drop (length a) c.told) ≡ numbers_of ((item_asked S n (drop n c.lent) i).told ∷ [])
  told_is = ap (λ (l : List ℕ). take 4 (drop (length a) l)) c.contract.told ∙ call_item a k g s e b S c.answers c.lent f admitted

  bytes_are : part n (n + (item_asked S n (drop n c.lent) i).took) c.after
      ≡ take (item_asked S n (drop n c.lent) i).took (item_asked S n (drop n c.lent) i).room
  bytes_are =
      ap (part n (n + (item_asked S n (drop n c.lent) i).took)) c.contract.buffer ∙ call_bytes a k g s e b S c.answers c.lent f admitted

  pub block_calls : is_known k 0 g ≡ true → (r : Result Text Refusal) (d : List ℕ)
      → Meets (string_question (literal_of k 0 s e) S (settings_of g) (drop begins c.lent)) r d → Returned c (length a) r d
  block_calls known r d m = record {
    told = told_is ∙ ap (λ (x : Asked). numbers_of (x.told ∷ [])) asked ∙ ap (λ (m : ℕ). numbers_of (four_of m r ∷ [])) (sym begins_is);
    bytes = bytes;
    shows =
        four_shows S c.after d begins e (length room) behind (filled_length filled) r
        (subst (TextFits e (length room)) (sym m.answer) (string_fits (literal_of k 0 s e) S (settings_of g) room)) bytes;
  }
    where
      -- the item, as the single call answered it
      answered : Asked
      answered = record { told = four_of n r; took = takes r; room = d }

      asked : item_asked S n (drop n c.lent) i ≡ answered
      asked =
          item_known S n (drop n c.lent) i known
          ∙ ap (λ (m : ℕ). asked_as n (string_question (literal_of k 0 s e) S (settings_of g) (drop m c.lent))) (sym begins_is)
          ∙ ap₂ (λ (x : Result Text Refusal) (y : List ℕ). record { told = four_of n x; took = takes x; room = y }) (sym m.answer) (sym m.buffer)

      bytes : part begins (begins + takes r) c.after ≡ take (takes r) d
      bytes =
          ap (λ (m : ℕ). part m (m + takes r) c.after) begins_is
          ∙ ap (λ (x : Asked). part n (n + x.took) c.after) (sym asked)
          ∙ bytes_are
          ∙ ap (λ (x : Asked). take x.took x.room) asked

      -- its room, which lies in the buffer
      room : List ℕ
      room = drop begins c.lent

      filled : Filled (takes r) room d
      filled =
          subst (λ (v : ℕ). Filled (takes r) (drop v c.lent) d) (sym begins_is)
          (subst (λ (x : Asked). Filled x.took (drop n c.lent) x.room) asked (item_filled S n (drop n c.lent) i))

      behind : begins + length room ≤ length c.after
      behind =
          omega (
            arith,
            begins_is,
            taken_fits S c.lent (items_of a),
            length-drop begins c.lent,
            ap length c.contract.buffer,
            (block_leaves (a ++ (k ∷ (g ∷ (s ∷ (e ∷ b))))) S c.answers c.lent).buffer_length,
          )

  -- 10 ahead of all else
  pub block_calls_unknown : is_known k 0 g ≡ false → take 4 (drop (length a) c.told) ≡ 10 ∷ 0 ∷ 0 ∷ 0 ∷ []
  block_calls_unknown h = told_is ∙ ap (λ (x : Asked). numbers_of (x.told ∷ [])) (item_unknown S n (drop n c.lent) i h)

  -- "a refused item takes no room and stops nothing": left out by another call on the same buffer
  module _ (refused : take 4 (drop (length a) c.told) ! 0 ≡ 0 → ⊥) (v : BlockCall (a ++ b) S) (y : v.result ≡ 0) (same : v.lent ≡ c.lent) where
    none : (item_asked S n (drop n c.lent) i).took ≡ 0
    none = item_refused_took S n (drop n c.lent) i (λ h. refused (ap (◌! 0) told_is ∙ h))

    others : Admitted (a ++ b) v.answers c.lent
    others = subst (Admitted (a ++ b) v.answers) same (call_admitted v y)

    others_are : block_call (a ++ b) S v.answers v.lent ≡ block_call (a ++ b) S v.answers c.lent
    others_are = ap (block_call (a ++ b) S v.answers) same

    abbrev left : List ℕ
    left = (block_call (a ++ b) S v.answers c.lent).answers

    left_is : left ≡ v.told
    left_is = sym (v.contract.told ∙ ap (λ (o : BlockOutcome). o.answers) others_are)

    before : take (length a) (take (length (a ++ b)) left) ≡ take (length a) v.told
    before = take-take (length a) (length (a ++ b)) left (omega (arith, length-append a b)) ∙ ap (take (length a)) left_is

    behind : drop (length a) (take (length (a ++ b)) left) ≡ take (length b) (drop (length a) v.told)
    behind =
        ap (λ (k : ℕ). drop (length a) (take k left)) (length-append a b)
        ∙ drop_take (length a) (length b) left
        ∙ ap (λ (l : List ℕ). take (length b) (drop (length a) l)) left_is

    pub refused_out : LeavesOut a b S c v
    refused_out = record {
      told =
          ap (take (length (a ++ (k ∷ (g ∷ (s ∷ (e ∷ b))))))) c.contract.told
          ∙ call_out_told a k g s e b S c.answers c.lent f admitted none v.answers others
          ∙ ap₂ ◌++◌ before (ap₂ ◌++◌ (sym told_is) behind);
      bytes =
          c.contract.buffer
          ∙ call_out_buffer a k g s e b S c.answers c.lent f admitted none v.answers others
          ∙ sym (v.contract.buffer ∙ ap (λ (o : BlockOutcome). o.buffer) others_are);
    }

-- TWO CALLS, x and then y on what is left of its slices, and w in their stead
pub record Splits (a b S : List ℕ) (w : BlockCall (a ++ b) S) (x : BlockCall a S) (y : BlockCall b S) : Type 0 where
  pub first : x.result ≡ 0
  pub second : y.result ≡ 0
  pub told : w.told
      ≡ take (length a) x.told ++ (moved_starts (room_from x (length a)) (take (length b) y.told) ++ drop (length b) y.told)
  pub bytes : w.after ≡ take (room_from x (length a)) x.after ++ y.after

module _ (a b S : List ℕ) (f : length a % 4 ≡ 0) (w : BlockCall (a ++ b) S) (z : w.result ≡ 0) (x : BlockCall a S) (y : BlockCall b S)
    (xa : x.answers ≡ w.answers) (xl : x.lent ≡ w.lent)
    (ya : y.answers ≡ drop (length a) x.told) (yl : y.lent ≡ drop (room_from x (length a)) x.after) where
  abbrev m : ℕ
  m = taken S w.lent (items_of a)

  whole : Admitted (a ++ b) w.answers w.lent
  whole = call_admitted w z

  front : Admitted a w.answers w.lent
  front = first_admitted a b S w.answers w.lent whole f

  abbrev first : BlockOutcome
  first = block_call a S w.answers w.lent

  first_is : block_call a S x.answers x.lent ≡ first
  first_is = ap₂ (block_call a S) xa xl

  x_told : x.told ≡ first.answers
  x_told = x.contract.told ∙ ap (λ (o : BlockOutcome). o.answers) first_is

  x_after : x.after ≡ first.buffer
  x_after = x.contract.buffer ∙ ap (λ (o : BlockOutcome). o.buffer) first_is

  told_is_taken : room_from x (length a) ≡ m
  told_is_taken = ap (λ (l : List ℕ). lengths_told (take (length a) l)) x_told ∙ call_taken a S w.answers w.lent front

  abbrev second : BlockOutcome
  second = block_call b S (drop (length a) w.answers) (drop m w.lent)

  second_is : block_call b S y.answers y.lent ≡ second
  second_is =
      ap₂ (block_call b S) (ya ∙ ap (drop (length a)) x_told ∙ (block_leaves a S w.answers w.lent).answers_rest)
      (yl ∙ ap₂ drop told_is_taken x_after ∙ (block_leaves a S w.answers w.lent).buffer_rest)

  y_told : y.told ≡ second.answers
  y_told = y.contract.told ∙ ap (λ (o : BlockOutcome). o.answers) second_is

  split : block_call (a ++ b) S w.answers w.lent
      ≡ record {
        number = 0;
        answers = take (length a) first.answers ++ (moved_starts m (take (length b) second.answers) ++ drop (length b) second.answers);
        buffer = take m first.buffer ++ second.buffer;
      }
  split = block_split a b S w.answers w.lent whole f

  pub split_calls : Splits a b S w x y
  split_calls = record {
    first = x.contract.result ∙ ap (λ (o : BlockOutcome). o.number) (first_is ∙ call_is a S w.answers w.lent front);
    second =
        y.contract.result
        ∙ ap (λ (o : BlockOutcome). o.number)
        (second_is ∙ call_is b S (drop (length a) w.answers) (drop m w.lent) (second_admitted a b S w.answers w.lent whole f));
    told =
        w.contract.told
        ∙ ap (λ (o : BlockOutcome). o.answers) split
        ∙ sym (ap (λ (k : ℕ). moving k x.told y.told) told_is_taken ∙ ap₂ (moving m) x_told y_told);
    bytes =
        w.contract.buffer
        ∙ ap (λ (o : BlockOutcome). o.buffer) split
        ∙ sym (ap₂ (λ (k : ℕ) (l : List ℕ). take k l ++ y.after) told_is_taken x_after
        ∙ ap (take m first.buffer ++◌) (y.contract.buffer ∙ ap (λ (o : BlockOutcome). o.buffer) second_is));
  }
    where
      moving : ℕ → List ℕ → List ℕ → List ℕ
      moving k p q = take (length a) p ++ (moved_starts k (take (length b) q) ++ drop (length b) q)
