-- The loop of a block: the items before a place are told and their values put, and what follows is the block of the others in the room that is left.
-- Assumes nothing.
use mathlib.Core.Path.{◌≡◌, refl, sym, ap, ◌∙◌, subst}
use mathlib.Core.Bool.{Bool, true, false}
use mathlib.Core.List.{List, [], ◌∷◌, ◌++◌}
use Prim.Native.Nat.{ℕ, ◌+◌, ◌-◌, ◌*◌, ◌/◌, ◌%◌, ◌^◌, ◌≤◌, ◌<◌}
use native.Mathlib.Omega.{arith}
use lib.ListN.{length, take, drop, length-drop, take-append-drop}
use lib.Seq.{drop-append_seam, drop-drop, drop-length, length-take-le}
use mir.Syntax.{w64}
use mir.Val.{Fits}
use Rattle.meaning.specs.declared.Item.{Item}
use Rattle.meaning.specs.declared.Four.{Four}
use Rattle.meaning.specs.Blocks.{items_of, numbers_of, Asked, item_asked, Block, before, block_at, bad_block, block_call, Blocks}
use Rattle.laws.proofs.basics.Lists.{part_tail}
use Rattle.laws.proofs.basics.Laying.{Laid, laid_none, laid_same, laid_all, laid_rest, laid_more}
use Rattle.laws.proofs.questions.Buffers.{Filled, filled_front, filled_rest}
use Rattle.laws.proofs.questions.Items.{item_filled}
use Rattle.laws.proofs.questions.Blocks.{block_length}
use Rattle.laws.proofs.questions.BlockCalls.{Admitted, admitted_good, good_admitted, told_length}
use Rattle.blocks.specs.declared.items.Told.{Told}
use Rattle.blocks.specs.Items.{Asks, item_at, laid, bad_lengths}

-- A RUN of four numbers or more begins with an item
items_next : (l : List ℕ) → 4 ≤ length l → items_of l ≡ item_at l ∷ items_of (drop 4 l)
items_next [] h = absurd (omega arith)
items_next (a ∷ []) h = absurd (omega arith)
items_next (a ∷ (b ∷ [])) h = absurd (omega arith)
items_next (a ∷ (b ∷ (c ∷ []))) h = absurd (omega arith)
items_next (a ∷ (b ∷ (c ∷ (d ∷ l)))) h = refl

-- THE LOOP
pub record Running (items S answers₀ out₀ answers out : List ℕ) (at used : ℕ) : Type 0 where
  pub good : Admitted items answers₀ out₀
  pub wide : length items < 2 ^ 64
  pub fours : at % 4 ≡ 0
  pub inside : at ≤ length items
  pub told : Laid (numbers_of (block_at S 0 out₀ (items_of items)).fours) answers₀ answers at
  pub tell : drop at (numbers_of (block_at S 0 out₀ (items_of items)).fours) ≡ numbers_of (block_at S used (drop used out₀) (items_of (drop at items))).fours
  pub put : Laid (block_at S 0 out₀ (items_of items)).buffer out₀ out used
  pub left : drop used (block_at S 0 out₀ (items_of items)).buffer ≡ (block_at S used (drop used out₀) (items_of (drop at items))).buffer

module _ (items S answers out : List ℕ) (b : Bool) (e : b ≡ bad_lengths (length items) (length answers) (length out)) where
  pub running_none : b ≡ true → Blocks (block_call items S answers out) 15 answers out
  unfolding block_call bad_block
  running_none h = rw (sym e ∙ h) (record { result = refl; told = refl; buffer = refl })

  good : b ≡ false → Admitted items answers out
  unfolding bad_block
  good h = good_admitted items answers out (sym e ∙ h)

  pub running_start : length items < 2 ^ 64 → b ≡ false → Running items S answers out answers out 0 0
  running_start w h = record {
    good = good h;
    wide = w;
    fours = refl;
    inside = omega arith;
    told = laid_none _ answers (omega (arith, told_length items S out (good h).fours, (good h).room));
    tell = refl;
    put = laid_none _ out (omega (arith, block_length S 0 out (items_of items)));
    left = refl;
  }

module _ {items S answers₀ out₀ answers out : List ℕ} {at used : ℕ} (m : Running items S answers₀ out₀ answers out at used) where
  abbrev all : Block
  all = block_at S 0 out₀ (items_of items)

  pub same_answers : length answers ≡ length answers₀
  same_answers = laid_same m.told

  pub same_out : length out ≡ length out₀
  same_out = laid_same m.put

  pub running_answers : at ≤ length answers
  running_answers = omega (arith, m.inside, m.good.room, laid_same m.told)

  pub running_room : used ≤ length out
  running_room = omega (arith, m.put.part, block_length S 0 out₀ (items_of items), laid_same m.put)

  -- the room is the lent one's tail
  room_lent : take (length out - used) (drop used out) ≡ drop used out₀
  room_lent =
      part_tail out used ∙ ap (drop used) m.put.put
      ∙ ap (λ (k : ℕ). drop k (take used all.buffer ++ drop used out₀)) (sym (length-take-le used all.buffer m.put.part))
      ∙ drop-append_seam (take used all.buffer) (drop used out₀)

  pub running_small : used + length (take (length out - used) (drop used out)) ≤ 4294967295
  running_small =
      omega (arith, ap length room_lent, length-drop used out₀, m.good.limit, running_room, laid_same m.put)

  -- ALL IS TOLD
  running_all : length items ≤ at → Blocks (block_call items S answers₀ out₀) 0 answers out
  unfolding block_call
  running_all h = rw (admitted_good items answers₀ out₀ m.good) (record { result = refl; told = (laid_all m.told (m.tell ∙ none)).1; buffer = bytes })
    where
      end : drop at items ≡ []
      end =
          let z : at ≡ length items = omega (arith, m.inside, h) in
          ap (λ (k : ℕ). drop k items) z ∙ drop-length items

      none : numbers_of (block_at S used (drop used out₀) (items_of (drop at items))).fours ≡ []
      none = ap (λ (l : List ℕ). numbers_of (block_at S used (drop used out₀) (items_of l)).fours) end

      bytes : out ≡ all.buffer
      bytes =
          m.put.put
          ∙ ap (take used all.buffer ++◌) (sym (m.left ∙ ap (λ (l : List ℕ). (block_at S used (drop used out₀) (items_of l)).buffer) end))
          ∙ take-append-drop used all.buffer

  -- ONE ITEM MORE
  module _ (h : at < length items) where
    running_four : at + 4 ≤ length items
    running_four = omega (arith, m.fours, m.good.fours, h)

    running_item : 4 ≤ length (take (length items - at) (drop at items))
    running_item = omega (arith, ap length (part_tail items at), length-drop at items, running_four)

    running_lay : 4 ≤ length (take (length answers - at) (drop at answers))
    running_lay =
        omega (
          arith,
          ap length (part_tail answers at),
          length-drop at answers,
          running_four,
          m.good.room,
          laid_same m.told,
        )

    module _ (i : Item) (ei : i ≡ item_at (take (length items - at) (drop at items))) (r : Told) (last : List ℕ)
        (a : Asks (item_asked S used (take (length out - used) (drop used out)) i) r last) where
      abbrev it : Asked
      it = item_asked S used (drop used out₀) (item_at (drop at items))

      asks : Asks it r last
      asks =
          subst (λ (j : Item). Asks (item_asked S used (drop used out₀) j) r last) (ei ∙ ap item_at (part_tail items at))
          (subst (λ (d : List ℕ). Asks (item_asked S used d i) r last) room_lent a)

      fills : Filled it.took (drop used out₀) it.room
      fills = item_filled S used (drop used out₀) (item_at (drop at items))

      abbrev others : Block
      others = block_at S (used + r.took) (drop (used + r.took) out₀) (items_of (drop (at + 4) items))

      -- what it takes, and the room behind it
      took_is : take it.took it.room ≡ fills.value
      took_is = filled_front fills

      room_is : drop it.took it.room ≡ drop (used + it.took) out₀
      room_is = filled_rest fills ∙ drop-drop it.took used out₀

      -- the block from here on
      here : block_at S used (drop used out₀) (items_of (drop at items)) ≡ before it others
      here =
          ap (block_at S used (drop used out₀))
          (items_next (drop at items) (omega (arith, length-drop at items, running_four))
          ∙ ap (λ (l : List ℕ). item_at (drop at items) ∷ items_of l) (drop-drop 4 at items))
          ∙ ap (λ (d : List ℕ). before it (block_at S (used + it.took) d (items_of (drop (at + 4) items)))) room_is
          ∙ ap (λ (k : ℕ). before it (block_at S (used + k) (drop (used + k) out₀) (items_of (drop (at + 4) items)))) (sym asks.took)

      tells : drop at (numbers_of all.fours) ≡ it.told.number ∷ (it.told.how ∷ (it.told.start ∷ (it.told.len ∷ numbers_of others.fours)))
      tells = m.tell ∙ ap (λ (x : Block). numbers_of x.fours) here

      leaves : drop used all.buffer ≡ fills.value ++ others.buffer
      leaves = m.left ∙ ap (λ (x : Block). x.buffer) here ∙ ap (◌++ others.buffer) took_is

      put_more : Laid all.buffer out₀ (take used out ++ (last ++ drop (length out - used) (drop used out))) (used + r.took)
      put_more =
          laid_more m.put fills.value others.buffer leaves r.took last (asks.took ∙ sym fills.size)
          (asks.room ∙ fills.bytes ∙ ap (λ (k : ℕ). fills.value ++ drop k (drop used out₀)) (sym fills.size)
          ∙ ap (λ (d : List ℕ). fills.value ++ drop (length fills.value) d) (sym room_lent))

      running_used : Fits w64 (used + r.took)
      running_used = record {
        fits = omega (arith, put_more.part, block_length S 0 out₀ (items_of items), m.good.limit);
      }

      running_more : (front : List ℕ) → front ≡ laid r.four (take (length answers - at) (drop at answers))
          → Running items S answers₀ out₀ (take at answers ++ (front ++ drop (length answers - at) (drop at answers)))
          (take used out ++ (last ++ drop (length out - used) (drop used out))) (at + 4) (used + r.took)
      running_more front q = record {
        good = m.good;
        wide = m.wide;
        fours = omega (arith, m.fours);
        inside = running_four;
        told =
            laid_more m.told (it.told.number ∷ (it.told.how ∷ (it.told.start ∷ (it.told.len ∷ [])))) (numbers_of others.fours) tells 4 front refl
            (q ∙ ap (λ (f : Four). laid f (take (length answers - at) (drop at answers))) asks.told);
        tell = laid_rest m.told (it.told.number ∷ (it.told.how ∷ (it.told.start ∷ (it.told.len ∷ [])))) (numbers_of others.fours) tells (at + 4) refl;
        put = put_more;
        left = laid_rest m.put fills.value others.buffer leaves (used + r.took) (ap (used +◌) (asks.took ∙ sym fills.size));
      }

-- THE ITEM AT A PLACE, four numbers each
module _ {items S answers₀ out₀ answers out : List ℕ} {place used : ℕ} (m : Running items S answers₀ out₀ answers out (4 * place) used) where
  pub items_all : length items / 4 ≤ place → Blocks (block_call items S answers₀ out₀) 0 answers out
  items_all h = running_all m (omega (arith, h, m.good.fours))

  module _ (h : place < length items / 4) where
    inside : 4 * place < length items
    inside = omega (arith, h)

    pub item_place : Fits w64 (4 * place)
    item_place = record { fits = omega (arith, inside, m.wide) }

    pub item_stands : 4 ≤ length (take (length items - 4 * place) (drop (4 * place) items))
    item_stands = running_item m inside

    pub item_lay : 4 ≤ length (take (length answers - 4 * place) (drop (4 * place) answers))
    item_lay = running_lay m inside

    module _ (i : Item) (ei : i ≡ item_at (take (length items - 4 * place) (drop (4 * place) items))) (r : Told) (last : List ℕ)
        (a : Asks (item_asked S used (take (length out - used) (drop used out)) i) r last) where
      pub item_used : Fits w64 (used + r.took)
      item_used = running_used m inside i ei r last a

      pub item_more : (front : List ℕ) → front ≡ laid r.four (take (length answers - 4 * place) (drop (4 * place) answers))
          → Running items S answers₀ out₀ (take (4 * place) answers ++ (front ++ drop (length answers - 4 * place) (drop (4 * place) answers)))
          (take used out ++ (last ++ drop (length out - used) (drop used out))) (4 * (place + 1)) (used + r.took)
      item_more front q =
          let e : 4 * place + 4 ≡ 4 * (place + 1) = omega arith in
          subst (λ (k : ℕ). Running items S answers₀ out₀ (take (4 * place) answers ++ (front ++ drop (length answers - 4 * place) (drop (4 * place) answers)))
          (take used out ++ (last ++ drop (length out - used) (drop used out))) k (used + r.took)) e (running_more m inside i ei r last a front q)
