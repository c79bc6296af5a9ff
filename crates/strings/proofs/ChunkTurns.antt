-- A turn of reading: the part of a buffer that was lent comes back; a run of bytes that stand for themselves, the unit behind it, and what follows. Assumes nothing.
use mathlib.Core.Path.{◌≡◌, refl, ap, ap₂, sym, ◌∙◌}
use mathlib.Core.Bool.{Bool, true, false, ◌&&◌, not, false≢true}
use mathlib.Core.List.{List, [], ◌∷◌, ◌++◌}
use Prim.Native.Nat.{ℕ, zero, suc, ◌+◌, ◌-◌, ◌≤◌, ◌<◌}
use native.Mathlib.Numerals.{add-one}
use native.Mathlib.Omega.{arith}
use lib.Dec.{eqb}
use lib.ListN.{length, take, drop, length-append, length-take, length-drop}
use lib.Seq.{take-add, take-append-le, take_all}
use borrow.Author.Tests.{eqb-true, not-true}
use Rattle.meaning.specs.Bytes.{◌!◌, quote, backslash}
use Rattle.meaning.specs.Walk.{Step, keep}
use Rattle.laws.proofs.basics.Tests.{and_left, and_right, eqb_sym}
use Rattle.laws.proofs.basics.Lists.{part_tail}
use Rattle.laws.proofs.walking.Fronts.{Front, front_more, front_kept}
use Rattle.laws.proofs.utf8.Abreast.{abreast_same, abreast_more}
use Rattle.leaves.specs.Blocks.{passes}
use Rattle.leaves.proofs.RunSteps.{KeepsAll}
use Rattle.leaves.proofs.Scans.{passes_inside}
use Rattle.cutting.specs.Marks.{mark_of}
use Rattle.escapes.specs.declared.units.Family.{Family}
use Rattle.escapes.specs.declared.units.Family.TheVariants.{Standard, Escape, Unicode}
use Rattle.strings.specs.declared.taking.Taken.{Taken}
use Rattle.strings.specs.declared.chunks.End.TheVariants.{More, Closed, Unread}
use Rattle.strings.specs.declared.chunks.Turn.{Turn}
use Rattle.leaves.specs.Words.{neither}
use Rattle.strings.specs.Quick.{step_by, mark_by, other_by, Takes, Copies, Turns, TurnsBehind, Ends}
use Rattle.strings.proofs.Lending.{lent, back, back_same, back_take}

-- FREE BYTES stand for themselves
module _ (m o b : ℕ) (h : neither m o b ≡ true) where
  not_mark : eqb b m ≡ false
  unfolding neither
  not_mark = not-true (eqb b m) (and_left (not (eqb b m)) (not (eqb b o)) h)

  not_other : eqb b o ≡ false
  unfolding neither
  not_other = not-true (eqb b o) (and_right (not (eqb b m)) (not (eqb b o)) h)

keeps : (f : Family) → KeepsAll (neither (mark_by f) (other_by f)) (step_by f)
keeps (Standard m true) b t h = rw (not_other (mark_of m) backslash b h, not_mark (mark_of m) backslash b h)
keeps (Standard m false) b t h = rw (not_mark (mark_of m) (mark_of m) b h)
keeps Escape b t h = rw (not_other quote backslash b h, not_mark quote backslash b h)
keeps (Unicode m) b t h = rw (not_mark (mark_of m) backslash b h, eqb_sym backslash b ∙ not_other (mark_of m) backslash b h)

keep_each : (p : ℕ → Bool) (step : List ℕ → Step) → KeepsAll p step → (r : ℕ) (l : List ℕ) → passes p r l ≡ true → (j : ℕ) → j < r → step (drop j l) ≡ keep
keep_each p step k zero l e j h = absurd (omega arith)
keep_each p step k (suc r) [] e j h = absurd (false≢true e)
keep_each p step k (suc r) (b ∷ t) e zero h = k b t (and_left (p b) (passes p r t) e)
keep_each p step k (suc r) (b ∷ t) e (suc j) h = keep_each p step k r t (and_right (p b) (passes p r t) e) j (omega arith)

run_front : (f : Family) (t : List ℕ) (r : ℕ) → passes (neither (mark_by f) (other_by f)) r t ≡ true → Front (step_by f) t r (take r t) true
run_front f t r h =
    let p = neither (mark_by f) (other_by f) in
    front_kept (step_by f) t r
    (record { room = omega (arith, passes_inside p r t h); each = λ j q. let z : 0 + j ≡ j = omega arith in rw z (keep_each p (step_by f) (keeps f) r t h j q) })

-- A TURN: the run is copied, into a buffer that held d
module _ (f : Family) (text d : List ℕ) (run : ℕ) (out : List ℕ) (c : Copies (mark_by f) (other_by f) text d run out) where
  front : Front (step_by f) text run (take run text) true
  front = run_front f text run c.free

  run_alone : (e : Bool) → (e ≡ false → 0 < run) → Turns f text d (record { at = run; n = run; plain = true; ends = e }) out
  run_alone e g = record {
    same = c.same;
    room = omega (arith, c.most);
    front = rw c.copied front;
    abreast = λ x. rw c.copied (abreast_same (take run text));
    goes = g;
  }

-- and a unit is looked for behind it
pub behind_none : (f : Family) (text : List ℕ) (run : ℕ) (out : List ℕ) → TurnsBehind f text run out (record { at = run; n = run; plain = true; ends = true }) out
behind_none f text run out = record { same = refl; turns = λ d c. run_alone f text d run out c true (λ y. absurd (false≢true (sym y))) }

module _ (f : Family) (text : List ℕ) (run : ℕ) (out : List ℕ) (u : Taken) (t : Takes f (lent run text) u) (there : run ≤ length text) (some : u.len ≡ 0 → ⊥) where
  unit : Front (step_by f) (drop run text) u.len (take u.put u.bytes) false
  unit = let h = t.front (omega arith) in rw (part_tail text run) at h

  pub unit_there : run + u.len ≤ length text
  unit_there = omega (arith, unit.so_far.inside, length-drop run text)

  -- four bytes are put, of which the unit's count
  module _ (room : run + 4 ≤ length out) (last : List ℕ) (put : last ≡ take 4 u.bytes ++ drop 4 (lent run out)) where
    el : last ≡ u.bytes ++ drop 4 (lent run out)
    el = put ∙ ap (◌++ drop 4 (lent run out)) (take_all 4 u.bytes (omega (arith, t.four)))

    long : length last ≡ length (lent run out)
    long =
        ap length el ∙ length-append u.bytes (drop 4 (lent run out))
        ∙ omega (arith, t.four, length-drop 4 (lent run out), length-take (length out - run) (drop run out), length-drop run out)

    in_out : run ≤ length out
    in_out = omega arith

    pub behind_unit : TurnsBehind f text run out (record { at = run + u.len; n = run + u.put; plain = false; ends = false }) (back run out last)
    behind_unit = record { same = back_same out last run in_out long; turns = turns }
      where
        turns : (d : List ℕ) → Copies (mark_by f) (other_by f) text d run out
            → Turns f text d (record { at = run + u.len; n = run + u.put; plain = false; ends = false }) (back run out last)
        turns d c =
            let k : take (run + u.put) (back run out last) ≡ take run text ++ take u.put u.bytes =
            back_take out last run in_out long u.put
            ∙ ap₂ (λ (a b : List ℕ). a ++ b) c.copied (ap (take u.put) el ∙ take-append-le u.put u.bytes (drop 4 (lent run out)) (omega (arith, t.four, t.few))) in
            record {
              same = back_same out last run in_out long ∙ c.same;
              room = omega (arith, c.most, t.few);
              front = rw k (front_more (front f text d run out c) u.len (take u.put u.bytes) false unit);
              abreast =
                  λ y. let a = t.abreast (omega arith) y in rw (k, take-add run u.len text)
                  (abreast_more (take run text) (take run text) (take u.len (drop run text)) (take u.put u.bytes) (abreast_same (take run text))
                  (rw (part_tail text run) at a));
              goes = λ y. omega arith;
            }

-- both
module _ (f : Family) (text d : List ℕ) (first second run : ℕ) (out : List ℕ) (c' : Copies first second text d run out) (ef : first ≡ mark_by f)
    (es : second ≡ other_by f) where
  c : Copies (mark_by f) (other_by f) text d run out
  c = rw (ef, es) at c'

  pub turn_there : run ≤ length text
  turn_there = (front f text d run out c).so_far.inside

  pub turn_room : 32 ≤ length d → run + 4 ≤ length out
  turn_room h = omega (arith, c.same, c.most)

  pub turn_block : run ≡ 16 → Turns f text d (record { at = run; n = run; plain = true; ends = false }) out
  turn_block e = run_alone f text d run out c false (λ y. omega arith)

  pub turn_on : (r : Turn) (after : List ℕ) → TurnsBehind f text run out r after → Turns f text d r after
  turn_on r after x = x.turns d c

-- WHAT FOLLOWS: another turn, a mark that stands alone, or neither
module _ (text : List ℕ) (at : ℕ) (f : Family) (ends : Bool) where
  pub ends_more : not ends ≡ true → Ends text at f ends More
  ends_more h = record { closed = λ q. absurd (let z : ◌≡◌ {A = ℕ} 0 1 = cc in omega arith); more = λ q. not-true ends h }

  pub ends_unread : Ends text at f ends Unread
  ends_unread = record {
    closed = λ q. absurd (let z : ◌≡◌ {A = ℕ} 0 1 = cc in omega arith);
    more = λ q. absurd (let z : ◌≡◌ {A = ℕ} 0 1 = cc in omega arith);
  }

  pub ends_closed : (mark next : ℕ) → at < length text → mark ≡ mark_by f → next ≡ text ! (at + 1) → (eqb (text ! at) mark && not (eqb next mark)) ≡ true
      → Ends text at f ends Closed
  ends_closed mark next l em en h = record {
    closed = λ q. rw (← em) (record {
      inside = l;
      here = eqb-true (text ! at) mark (and_left (eqb (text ! at) mark) (not (eqb next mark)) h);
      alone =
          ap (λ (i : ℕ). eqb (text ! i) mark) (sym (add-one at)) ∙ ap (λ (b : ℕ). eqb b mark) (sym en)
          ∙ not-true (eqb next mark) (and_right (eqb (text ! at) mark) (not (eqb next mark)) h);
    });
    more = λ q. absurd (let z : ◌≡◌ {A = ℕ} 0 1 = cc in omega arith);
  }
