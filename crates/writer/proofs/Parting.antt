-- The parts of a value, as the code finds them: where the part at a place ends, and how many there are behind the first. Assumes nothing.
use mathlib.Core.Path.{◌≡◌, refl, ap, sym, ◌∙◌}
use mathlib.Core.Bool.{Bool, true, false, false≢true}
use mathlib.Core.List.{List, [], ◌∷◌}
use Prim.Native.Nat.{ℕ, ◌+◌, ◌-◌, ◌≤◌, ◌<◌}
use native.Mathlib.Omega.{arith}
use lib.Dec.{ltb}
use lib.ListN.{length, take, drop, get_or, length-drop, drop_of_length-le}
use lib.Seq.{get_or-drop, drop-drop, drop-cons, length-take-le}
use borrow.Author.Tests.{ltb-true, ltb-false}
use Rattle.meaning.specs.Bytes.{within}
use Rattle.meaning.specs.Chars.{utf8}
use Rattle.meaning.specs.Writer.{parts_from}
use Rattle.laws.proofs.writing.PartEnds.{parts_behind, FirstEnds, first_ends}
use Rattle.writer.specs.Parts.{first, others, first_part, later_parts, Cuttable}

-- THE PART AT A PLACE
module _ {w from : ℕ} {v : List ℕ} (c : Cuttable w from v) where
  ends : FirstEnds w (drop from v)
  ends = first_ends w (drop from v) c.wide c.valid

  size : length (first_part w (drop from v)) ≡ ends.end
  size = ap (λ (ps : List (List ℕ)). length (first ps)) ends.are ∙ length-take-le ends.end (drop from v) ends.inside

  -- what is left is the last part
  pub part_last : length v - from ≤ w → length v ≡ from + length (first_part w (drop from v))
  part_last h = omega (arith, size, ends.last (omega (arith, length-drop from v)), length-drop from v, c.inside)

-- BACK TO A CHARACTER'S FIRST BYTE, from where the part would end if each byte were a character
pub record Ending (w from : ℕ) (v : List ℕ) (end : ℕ) : Type 0 where
  pub cuttable : Cuttable w from v
  pub more : from + w < length v
  pub above : from + length (first_part w (drop from v)) ≤ end
  pub below : end ≤ from + w

pub ending_start : {w from : ℕ} {v : List ℕ} → Cuttable w from v → w < length v - from → Ending w from v (from + w)
ending_start c h = record { cuttable = c; more = omega arith; above = omega (arith, size c, (ends c).few); below = omega arith }

module _ {w from : ℕ} {v : List ℕ} {end : ℕ} (e : Ending w from v end) where
  byte : (j : ℕ) → from + j ≡ end → get_or (drop from v) j 0 ≡ get_or v end 0
  byte j z = get_or-drop from v j 0 ∙ ap (λ (k : ℕ). get_or v k 0) z

  module _ (x : Bool) (ex : x ≡ within 0x80 0xBF (get_or v end 0)) where
    -- the part ends further back
    before : x ≡ true → from + length (first_part w (drop from v)) < end
    before h = go (ltb (from + length (first_part w (drop from v))) end) refl
      where
        go : (y : Bool) → ltb (from + length (first_part w (drop from v))) end ≡ y → from + length (first_part w (drop from v)) < end
        go true l = ltb-true (from + length (first_part w (drop from v))) end l
        go false l =
            let k = ltb-false (from + length (first_part w (drop from v))) end l in
            let f = ends e.cuttable in
            let z : from + f.end ≡ end = omega (arith, size e.cuttable, e.above) in
            absurd (false≢true (sym f.begins ∙ ap (within 0x80 0xBF) (byte f.end z) ∙ sym ex ∙ h))

    pub ending_some : x ≡ true → 1 ≤ end
    ending_some h = omega (arith, before h)

    pub ending_turn : x ≡ true → Ending w from v (end - 1)
    ending_turn h = record { cuttable = e.cuttable; more = e.more; above = omega (arith, before h); below = omega (arith, e.below) }

    pub ending_end : x ≡ false → end ≡ from + length (first_part w (drop from v))
    ending_end h = go (ltb (from + length (first_part w (drop from v))) end) refl
      where
        go : (y : Bool) → ltb (from + length (first_part w (drop from v))) end ≡ y → end ≡ from + length (first_part w (drop from v))
        go true l =
            let k = ltb-true (from + length (first_part w (drop from v))) end l in
            let f = ends e.cuttable in
            let z : from + (end - from) ≡ end = omega arith in
            let y = f.later (omega (arith, length-drop from v, e.more)) (end - from) (omega (arith, size e.cuttable)) (omega (arith, e.below)) in
            absurd (false≢true (sym h ∙ ex ∙ ap (within 0x80 0xBF) (sym (byte (end - from) z)) ∙ y))
        go false l = let k = ltb-false (from + length (first_part w (drop from v))) end l in omega (arith, e.above)

-- THE PART FROM A PLACE TO ANOTHER, and those behind it
pub record PartIs (w from end : ℕ) (v : List ℕ) : Type 0 where
  pub next : Cuttable w end v
  pub are : parts_from w w (drop from v) ≡ take (end - from) (drop from v) ∷ parts_behind w (drop end v)
  pub front : utf8 (take (end - from) (drop from v)) ≡ true
  pub ordered : from ≤ end
  pub onward : from < length v → from < end

pub part_is : {w from : ℕ} {v : List ℕ} → Cuttable w from v → (end : ℕ) → end ≡ from + length (first_part w (drop from v)) → PartIs w from end v
part_is {w} {from} {v} c end e =
    let f = ends c in
    let z : f.end ≡ end - from = omega (arith, size c) in
    let y : from + f.end ≡ end = omega (arith, size c) in
    let s : drop f.end (drop from v) ≡ drop end v = drop-drop f.end from v ∙ ap (λ (k : ℕ). drop k v) y in
    record {
      next = record { inside = omega (arith, f.inside, length-drop from v, c.inside); short = c.short; valid = rw s at f.rest; wide = c.wide };
      are = f.are ∙ ap (λ (k : ℕ). take k (drop from v) ∷ parts_behind w (drop f.end (drop from v))) z
          ∙ ap (λ (t : List ℕ). take (end - from) (drop from v) ∷ parts_behind w t) s;
      front = rw z at f.front;
      ordered = omega arith;
      onward = λ h. omega (arith, f.some (omega (arith, length-drop from v)));
    }

-- there are parts behind a place where bytes are left, and none at the end
pub behind_some : (w at : ℕ) (v : List ℕ) → at < length v → parts_behind w (drop at v) ≡ parts_from w w (drop at v)
behind_some w at v h = rw (drop-cons v at 0 h)

pub behind_none : (w at : ℕ) (v : List ℕ) → length v ≤ at → parts_behind w (drop at v) ≡ []
behind_none w at v h = ap (parts_behind w) (drop_of_length-le v h)

-- COUNTING the parts behind the first: those before a place are counted
pub record Counted (w : ℕ) (v : List ℕ) (count end : ℕ) : Type 0 where
  pub cuttable : Cuttable w end v
  pub few : count ≤ end
  pub left : count + length (parts_behind w (drop end v)) ≡ length (later_parts w v)

pub counted_start : {w : ℕ} {v : List ℕ} → Cuttable w 0 v → (end : ℕ) → end ≡ 0 + length (first_part w (drop 0 v)) → Counted w v 0 end
counted_start c end e =
    let p = part_is c end e in
    record { cuttable = p.next; few = omega arith; left = omega (arith, ap (λ (ps : List (List ℕ)). length (others ps)) p.are) }

module _ {w : ℕ} {v : List ℕ} {count end : ℕ} (m : Counted w v count end) where
  pub counted_turn : end < length v → (r : ℕ) → r ≡ end + length (first_part w (drop end v)) → Counted w v (count + 1) r
  counted_turn h r e =
      let p = part_is m.cuttable r e in
      record {
        cuttable = p.next;
        few = omega (arith, m.few, p.onward h);
        left = omega (arith, m.left, ap length (behind_some w end v h ∙ p.are));
      }

  pub counted_onward : end < length v → (r : ℕ) → r ≡ end + length (first_part w (drop end v)) → end < r
  counted_onward h r e = (part_is m.cuttable r e).onward h
