-- [02 T-03] The call: when it is refused, what it tells of each item, what it leaves, a call of one item, and one without an item that takes nothing.
-- Assumes nothing.
use mathlib.Core.Path.{◌≡◌, refl, ap, ap₂, sym, ◌∙◌}
use mathlib.Core.Bool.{Bool, true, false, ◌||◌, not, false≢true}
use mathlib.Core.List.{List, [], ◌∷◌, ◌++◌, append_assoc, flatten}
use Prim.Native.Nat.{ℕ, suc, ◌+◌, ◌*◌, ◌%◌, ◌≤◌}
use native.Mathlib.Nat.{zero-add}
use native.Mathlib.Omega.{arith}
use lib.Dec.{eqb, ltb}
use lib.ListN.{length, take, drop, length-append, length-drop, take-append-drop}
use lib.Seq.{take_at, drop_at}
use borrow.Author.Tests.{eq-eqb, eqb-true, le-ltb, ltb-false, not-false}
use Rattle.meaning.specs.declared.Item.{Item}
use Rattle.meaning.specs.declared.Four.{Four}
use Rattle.meaning.specs.Bytes.{part}
use Rattle.std.specs.Prelude.{if◌then◌else◌}
use Rattle.meaning.specs.Questions.{string_question}
use Rattle.meaning.specs.Codes.{is_known, literal_of, settings_of}
use Rattle.meaning.specs.Blocks.{items_of, numbers_of, four_of, Asked, item_asked, Block, block_at, bad_block, BlockOutcome, block_told, block_call}
use Rattle.laws.proofs.basics.Tests.{or_left, or_right}
use Rattle.laws.proofs.questions.Items.{item_known, length_written}
use Rattle.laws.proofs.questions.Blocks.{taken, written_by, lengths_written, block_count, block_buffer, block_length, block_rest, block_room}
use Rattle.laws.proofs.questions.Blocks.{block_item, block_bytes, block_out_buffer, block_out_fours, block_one}

-- WHEN IT IS ANSWERED: the items in fours, an answer for each, and a buffer whose places 32 bits hold
pub record Admitted (items answers out : List ℕ) : Type 0 where
  pub fours : length items % 4 ≡ 0
  pub room : length items ≤ length answers
  pub limit : length out ≤ 4294967295

module _ (items answers out : List ℕ) where
  pub admitted_good : Admitted items answers out → bad_block items answers out ≡ false
  unfolding bad_block
  admitted_good a =
      rw (eq-eqb (length items % 4) 0 a.fours, le-ltb (length answers) (length items) a.room, le-ltb 4294967295 (length out) a.limit)

  pub good_admitted : bad_block items answers out ≡ false → Admitted items answers out
  unfolding bad_block
  good_admitted h = record {
    fours = eqb-true (length items % 4) 0 (not-false (eqb (length items % 4) 0) (or_left x y (or_left (x || y) z h)));
    room = ltb-false (length answers) (length items) (or_right x y (or_left (x || y) z h));
    limit = ltb-false 4294967295 (length out) (or_right (x || y) z h);
  }
    where
      x : Bool
      x = not (eqb (length items % 4) 0)

      y : Bool
      y = ltb (length answers) (length items)

      z : Bool
      z = ltb 4294967295 (length out)

  module _ (S : List ℕ) where
    pub call_good : bad_block items answers out ≡ false → block_call items S answers out ≡ block_told answers (block_at S 0 out (items_of items))
    unfolding block_call
    call_good h = rw h

    -- 15, and both slices as lent
    pub call_bad : bad_block items answers out ≡ true → block_call items S answers out ≡ record { number = 15; answers = answers; buffer = out }
    unfolding block_call
    call_bad h = rw h

-- NUMBERS AND ITEMS
four_less : (n : ℕ) → suc (suc (suc (suc n))) % 4 ≡ 0 → n % 4 ≡ 0
four_less n h = omega arith

items_length : (ns : List ℕ) → length ns % 4 ≡ 0 → 4 * length (items_of ns) ≡ length ns
items_length [] h = refl
items_length (k ∷ []) h = absurd (omega arith)
items_length (k ∷ (g ∷ [])) h = absurd (omega arith)
items_length (k ∷ (g ∷ (s ∷ []))) h = absurd (omega arith)
items_length (k ∷ (g ∷ (s ∷ (e ∷ ns)))) h = omega (arith, items_length ns (four_less (length ns) h))

pub items_append : (a b : List ℕ) → length a % 4 ≡ 0 → items_of (a ++ b) ≡ items_of a ++ items_of b
items_append [] b h = refl
items_append (k ∷ []) b h = absurd (omega arith)
items_append (k ∷ (g ∷ [])) b h = absurd (omega arith)
items_append (k ∷ (g ∷ (s ∷ []))) b h = absurd (omega arith)
items_append (k ∷ (g ∷ (s ∷ (e ∷ a)))) b h =
    ap (record { kind = k; setting = g; start = s; end = e } ∷◌) (items_append a b (four_less (length a) h))

numbers_length : (fs : List Four) → length (numbers_of fs) ≡ 4 * length fs
numbers_length [] = refl
numbers_length (f ∷ fs) = omega (arith, numbers_length fs)

pub numbers_append : (fs gs : List Four) → numbers_of (fs ++ gs) ≡ numbers_of fs ++ numbers_of gs
numbers_append [] gs = refl
numbers_append (f ∷ fs) gs = ap (λ (l : List ℕ). f.number ∷ (f.how ∷ (f.start ∷ (f.len ∷ l)))) (numbers_append fs gs)

-- the fours of the first items, and of the others
fours_cut : (a : List ℕ) (fs : List Four) → length a % 4 ≡ 0
    → (numbers_of (take (length (items_of a)) fs) ≡ take (length a) (numbers_of fs)) × (numbers_of (drop (length (items_of a)) fs) ≡ drop (length a) (numbers_of fs))
fours_cut [] fs h = (refl, refl)
fours_cut (k ∷ []) fs h = absurd (omega arith)
fours_cut (k ∷ (g ∷ [])) fs h = absurd (omega arith)
fours_cut (k ∷ (g ∷ (s ∷ []))) fs h = absurd (omega arith)
fours_cut (k ∷ (g ∷ (s ∷ (e ∷ a)))) [] h = (refl, refl)
fours_cut (k ∷ (g ∷ (s ∷ (e ∷ a)))) (f ∷ fs) h =
    let c = fours_cut a fs (four_less (length a) h) in (ap (λ (l : List ℕ). f.number ∷ (f.how ∷ (f.start ∷ (f.len ∷ l)))) c.0, c.1)

-- WHAT IT RETURNS: 0, or 15 exactly where it is not admitted
pub data ZeroOr15 (fact : Type 0) : ℕ → Type 0 where
  zero_by : fact → ZeroOr15 fact 0
  fifteen_by : (fact → ⊥) → ZeroOr15 fact 15

pub block_number : (items S answers out : List ℕ) → ZeroOr15 (Admitted items answers out) (block_call items S answers out).number
unfolding block_call
block_number items S answers out = go (bad_block items answers out) refl
  where
    go : (x : Bool) → bad_block items answers out ≡ x → ZeroOr15 (Admitted items answers out)
        (if x then record { number = 15; answers = answers; buffer = out } else block_told answers (block_at S 0 out (items_of items))).number
    go true h = fifteen_by (λ a. false≢true (sym (admitted_good items answers out a) ∙ h))
    go false h = zero_by (good_admitted items answers out h)

pub answered_admitted : (items S answers out : List ℕ) → (block_call items S answers out).number ≡ 0 → Admitted items answers out
answered_admitted items S answers out h = go (block_call items S answers out).number (block_number items S answers out) h
  where
    go : (n : ℕ) → ZeroOr15 (Admitted items answers out) n → n ≡ 0 → Admitted items answers out
    go _ (zero_by a) e = a
    go _ (fifteen_by f) e = absurd (omega arith)

-- WHAT IT TELLS, and the buffer
pub told_length : (items S out : List ℕ) → length items % 4 ≡ 0 → length (numbers_of (block_at S 0 out (items_of items)).fours) ≡ length items
told_length items S out h =
    numbers_length (block_at S 0 out (items_of items)).fours ∙ ap (4 *◌) (block_count S 0 out (items_of items)) ∙ items_length items h

module _ (items S answers out : List ℕ) (a : Admitted items answers out) where
  abbrev block : Block
  block = block_at S 0 out (items_of items)

  pub call_is : block_call items S answers out ≡ block_told answers block
  call_is = call_good items answers out S (admitted_good items answers out a)

  pub call_told : take (length items) (block_call items S answers out).answers ≡ numbers_of block.fours
  call_told =
      ap (λ (o : BlockOutcome). take (length items) o.answers) call_is
      ∙ take_at (numbers_of block.fours) (drop (length (numbers_of block.fours)) answers) (length items) (told_length items S out a.fours)

  pub call_behind : drop (length items) (block_call items S answers out).answers ≡ drop (length items) answers
  call_behind =
      ap (λ (o : BlockOutcome). drop (length items) o.answers) call_is
      ∙ drop_at (numbers_of block.fours) (drop (length (numbers_of block.fours)) answers) (length items) (told_length items S out a.fours)
      ∙ ap (λ (n : ℕ). drop n answers) (told_length items S out a.fours)

  pub call_answers : (block_call items S answers out).answers ≡ numbers_of block.fours ++ drop (length items) answers
  call_answers =
      sym (take-append-drop (length items) (block_call items S answers out).answers) ∙ ap₂ ◌++◌ call_told call_behind

  pub call_buffer : (block_call items S answers out).buffer ≡ block.buffer
  call_buffer = ap (λ (o : BlockOutcome). o.buffer) call_is

  -- what is written, one after the other, and the rest as lent
  pub call_written : (block_call items S answers out).buffer ≡ flatten (written_by S out (items_of items)) ++ drop (taken S out (items_of items)) out
  call_written = call_buffer ∙ block_buffer S 0 out (items_of items)

-- WHAT IT LEAVES: "Past the items the answer slice is unchanged", and so is the buffer past the bytes that are taken
pub record BlockLeaves (items S answers out : List ℕ) (o : BlockOutcome) : Type 0 where
  pub answers_length : length o.answers ≡ length answers
  pub answers_rest : drop (length items) o.answers ≡ drop (length items) answers
  pub buffer_length : length o.buffer ≡ length out
  pub buffer_rest : drop (taken S out (items_of items)) o.buffer ≡ drop (taken S out (items_of items)) out

pub block_leaves : (items S answers out : List ℕ) → BlockLeaves items S answers out (block_call items S answers out)
block_leaves items S answers out = go (bad_block items answers out) refl
  where
    b : Block
    b = block_at S 0 out (items_of items)

    go : (x : Bool) → bad_block items answers out ≡ x → BlockLeaves items S answers out (block_call items S answers out)
    go true h =
        rw (call_bad items answers out S h) (record { answers_length = refl; answers_rest = refl; buffer_length = refl; buffer_rest = refl })
    go false h =
        let a = good_admitted items answers out h in
        record {
          answers_length =
              ap length (call_answers items S answers out a)
              ∙ omega (
                arith,
                length-append (numbers_of b.fours) (drop (length items) answers),
                told_length items S out a.fours,
                length-drop (length items) answers,
                a.room,
              );
          answers_rest = call_behind items S answers out a;
          buffer_length = ap length (call_buffer items S answers out a) ∙ block_length S 0 out (items_of items);
          buffer_rest = ap (drop (taken S out (items_of items))) (call_buffer items S answers out a) ∙ block_rest S 0 out (items_of items);
        }

-- ONE ITEM: the single question
pub call_one : (k g s e : ℕ) (S answers out : List ℕ) → is_known k 0 g ≡ true → 4 ≤ length answers → length out ≤ 4294967295
    → block_call (k ∷ (g ∷ (s ∷ (e ∷ [])))) S answers out
    ≡ record {
      number = 0;
      answers = numbers_of (four_of 0 (string_question (literal_of k 0 s e) S (settings_of g) out).answer ∷ []) ++ drop 4 answers;
      buffer = (string_question (literal_of k 0 s e) S (settings_of g) out).buffer;
    }
call_one k g s e S answers out h r l =
    call_good (k ∷ (g ∷ (s ∷ (e ∷ [])))) answers out S
    (admitted_good (k ∷ (g ∷ (s ∷ (e ∷ [])))) answers out (record { fours = refl; room = r; limit = l }))
    ∙ ap (block_told answers)
    (block_one S 0 out i
    ∙ ap (λ (a : Asked). record { fours = a.told ∷ []; buffer = a.room }) (item_known S 0 out i h))
  where
    i : Item
    i = record { kind = k; setting = g; start = s; end = e }

-- HOW MANY BYTES ARE TOLD as written: there the room begins that is left
abbrev pub lengths_told : List ℕ → ℕ
lengths_told [] = 0
lengths_told (x ∷ []) = 0
lengths_told (x ∷ (h ∷ [])) = 0
lengths_told (x ∷ (h ∷ (s ∷ []))) = 0
lengths_told (x ∷ (h ∷ (s ∷ (l ∷ ns)))) = (if eqb h 2 then l else 0) + lengths_told ns

lengths_numbers : (fs : List Four) → lengths_told (numbers_of fs) ≡ lengths_written fs
lengths_numbers [] = refl
lengths_numbers (f ∷ fs) = ap (length_written f +◌) (lengths_numbers fs)

pub call_taken : (items S answers out : List ℕ) → Admitted items answers out
    → lengths_told (take (length items) (block_call items S answers out).answers) ≡ taken S out (items_of items)
call_taken items S answers out a =
    ap lengths_told (call_told items S answers out a)
    ∙ lengths_numbers (block_at S 0 out (items_of items)).fours
    ∙ sym (block_room S 0 out (items_of items))

-- ONE ITEM AMONG OTHERS, behind the items a: what is told of it, and its bytes
module _ (a : List ℕ) (k g s e : ℕ) (b S answers out : List ℕ) (f : length a % 4 ≡ 0) where
  abbrev whole : List ℕ
  whole = a ++ (k ∷ (g ∷ (s ∷ (e ∷ b))))

  abbrev i : Item
  i = record { kind = k; setting = g; start = s; end = e }

  abbrev n : ℕ
  n = taken S out (items_of a)

  abbrev single : Asked
  single = item_asked S n (drop n out) i

  from_0 : item_asked S (0 + n) (drop n out) i ≡ single
  from_0 = ap (λ (m : ℕ). item_asked S m (drop n out) i) (zero-add n)

  module _ (h : Admitted whole answers out) where
    abbrev before : List ℕ
    before = numbers_of (block_at S 0 out (items_of a)).fours

    -- the answers: those before it, its own, and the rest
    around : (rest : List ℕ) × ((block_call whole S answers out).answers ≡ before ++ (numbers_of (single.told ∷ []) ++ rest))
    around = (numbers_of gs ++ rest, call_answers whole S answers out h ∙ ap (◌++ rest) told ∙ append_assoc before _ _)
      where
        rest : List ℕ
        rest = drop (length whole) answers

        gs : List Four
        gs = (block_at S (0 + n + (item_asked S 0 (drop n out) i).took) (drop (item_asked S 0 (drop n out) i).took (drop n out)) (items_of b)).fours

        told : numbers_of (block_at S 0 out (items_of whole)).fours ≡ before ++ (numbers_of (single.told ∷ []) ++ numbers_of gs)
        told =
            ap (λ (is : List Item). numbers_of (block_at S 0 out is).fours) (items_append a (k ∷ (g ∷ (s ∷ (e ∷ b)))) f)
            ∙ ap numbers_of (block_item S 0 out (items_of a) i (items_of b))
            ∙ numbers_append (block_at S 0 out (items_of a)).fours ((item_asked S (0 + n) (drop n out) i).told ∷ gs)
            ∙ ap (λ (x : Asked). before ++ (numbers_of (x.told ∷ []) ++ numbers_of gs)) from_0

    pub call_before : take (length a) (block_call whole S answers out).answers ≡ before
    call_before = ap (take (length a)) around.1 ∙ take_at before _ (length a) (told_length a S out f)

    pub call_item : take 4 (drop (length a) (block_call whole S answers out).answers) ≡ numbers_of (single.told ∷ [])
    call_item = ap (λ (l : List ℕ). take 4 (drop (length a) l)) around.1 ∙ ap (take 4) (drop_at before _ (length a) (told_length a S out f))

    pub call_bytes : part n (n + single.took) (block_call whole S answers out).buffer ≡ take single.took single.room
    call_bytes =
        ap (part n (n + single.took))
        (call_buffer whole S answers out h ∙ ap (λ (is : List Item). (block_at S 0 out is).buffer) (items_append a (k ∷ (g ∷ (s ∷ (e ∷ b)))) f))
        ∙ ap (λ (x : Asked). part n (n + x.took) (block_at S 0 out (items_of a ++ (i ∷ items_of b))).buffer) (sym from_0)
        ∙ block_bytes S 0 out (items_of a) i (items_of b)
        ∙ ap (λ (x : Asked). take x.took x.room) from_0

    -- LEFT OUT, where it takes nothing: the buffer is the same, and so is what is told of the others
    module _ (none : single.took ≡ 0) (others : List ℕ) (o : Admitted (a ++ b) others out) where
      none_0 : (item_asked S (0 + n) (drop n out) i).took ≡ 0
      none_0 = ap (λ (x : Asked). x.took) from_0 ∙ none

      abbrev left : List ℕ
      left = take (length (a ++ b)) (block_call (a ++ b) S others out).answers

      abbrev fs : List Four
      fs = (block_at S 0 out (items_of a ++ items_of b)).fours

      left_is : left ≡ numbers_of fs
      left_is = call_told (a ++ b) S others out o ∙ ap (λ (is : List Item). numbers_of (block_at S 0 out is).fours) (items_append a b f)

      pub call_out_told : take (length whole) (block_call whole S answers out).answers
          ≡ take (length a) left ++ (numbers_of (single.told ∷ []) ++ drop (length a) left)
      call_out_told =
          call_told whole S answers out h
          ∙ ap (λ (is : List Item). numbers_of (block_at S 0 out is).fours) (items_append a (k ∷ (g ∷ (s ∷ (e ∷ b)))) f)
          ∙ ap numbers_of (block_out_fours S 0 out (items_of a) i (items_of b) none_0)
          ∙ numbers_append (take (length (items_of a)) fs) ((item_asked S (0 + n) (drop n out) i).told ∷ drop (length (items_of a)) fs)
          ∙ ap₂ ◌++◌ ((fours_cut a fs f).0 ∙ ap (take (length a)) (sym left_is))
          (ap₂ (λ (x : Asked) (l : List ℕ). numbers_of (x.told ∷ []) ++ l) from_0 ((fours_cut a fs f).1 ∙ ap (drop (length a)) (sym left_is)))

      pub call_out_buffer : (block_call whole S answers out).buffer ≡ (block_call (a ++ b) S others out).buffer
      call_out_buffer =
          call_buffer whole S answers out h
          ∙ ap (λ (is : List Item). (block_at S 0 out is).buffer) (items_append a (k ∷ (g ∷ (s ∷ (e ∷ b)))) f)
          ∙ block_out_buffer S 0 out (items_of a) i (items_of b) none_0
          ∙ sym (call_buffer (a ++ b) S others out o ∙ ap (λ (is : List Item). (block_at S 0 out is).buffer) (items_append a b f))

    -- where its room begins is told
    pub call_begins : lengths_told (take (length a) (block_call whole S answers out).answers) ≡ n
    call_begins =
        ap lengths_told call_before ∙ lengths_numbers (block_at S 0 out (items_of a)).fours ∙ sym (block_room S 0 out (items_of a))
