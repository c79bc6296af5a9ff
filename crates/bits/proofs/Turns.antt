-- Where the two loops over later segments stand, and each turn and way out: measuring counts their digits; writing puts each body into the room the earlier
-- ones left. Assumes nothing.
use mathlib.Core.Path.{◌≡◌, refl, ap, sym, ◌∙◌, subst}
use mathlib.Core.Bool.{Bool, true, false, ◌&&◌, not, false≢true}
use mathlib.Core.List.{List, ◌++◌}
use Prim.Native.Nat.{ℕ, suc, ◌+◌, ◌-◌, ◌≤◌, ◌<◌}
use native.Mathlib.Omega.{arith}
use lib.Dec.{eqb}
use lib.ListN.{length, take, drop, get_or}
use borrow.Author.Tests.{not-true, not-false, le-leb}
use Rattle.meaning.specs.declared.Settings.{Settings}
use Rattle.meaning.specs.Bytes.{part, all_digits}
use Rattle.std.specs.Prelude.{if◌then◌else◌}
use Rattle.meaning.specs.Walk.{give, walk}
use Rattle.meaning.specs.Cutting.{segment_step, cut}
use Rattle.meaning.specs.Reading.{means, fails, each}
use Rattle.meaning.specs.Kinds.{later_bits}
use Rattle.meaning.specs.Answers.{filled}
use Rattle.laws.proofs.joining.Joins as joins
use Rattle.laws.proofs.walking.Courses.{stops_here}
use Rattle.laws.proofs.walking.Passes.{Writing, writing_none, Roomy, writing_within, writing_room, writing_turn, writing_end}
use Rattle.cutting.specs.Segments.{next_of}
use Rattle.cutting.specs.declared.cursor.Cursor.{Cursor}
use Rattle.cutting.specs.declared.cursor.Next.{Next}
use Rattle.cutting.specs.declared.cursor.Next.TheVariants as Next'
use Rattle.cutting.proofs.Cursors.{UnitAt, at_end, at_remainder, at_segment}
use Rattle.bits.specs.Bodies.{Measures, body_by, body_step, bodies, BodiesFit}
use Rattle.bits.proofs.Bodies.{body_steady, own_body, body_length, later_by}
use Rattle.std.specs.Prelude.{Ok, Err}
use Rattle.bits.specs.Bodies.{misfit_at}

-- A SEGMENT AT A CURSOR: its bounds
module _ (σ : Settings) (t : List ℕ) (i : ℕ) (r : Next) (e : r ≡ next_of σ t i) (s o u : ℕ) (c : Cursor) (q : r ≡ Next'.Segment s o u c) where
  pub here : UnitAt σ t i s o u c.at
  here = at_segment σ t i r e s o u c q

  pub body_opens : s + o ≤ length t
  body_opens = omega (arith, here.some, here.ends, here.inside)

  pub segment_some : 1 ≤ u
  segment_some = omega (arith, here.some)

  pub body_ordered : s + o ≤ u - 1
  body_ordered = omega (arith, here.some)

  pub body_inside : u - 1 ≤ length t
  body_inside = omega (arith, here.ends, here.inside)

  pub cursor_less : length t - c.at < length t - i
  cursor_less = omega (arith, here.next, here.inside)

  -- its body is what it stands for
  pub body_step_lem : body_step σ (drop i t) ≡ give here.more (take (u - 1 - (s + o)) (drop (s + o) t))
  unfolding body_step
  body_step_lem =
      ap body_by here.step
      ∙ ap (λ (k : ℕ). give here.more (part k (length (take (u - s) (drop s t)) - 1) (take (u - s) (drop s t)))) here.opens
      ∙ ap (give here.more) (own_body here)

-- MEASURING: the segments before i have n digits
pub record LaterAt (σ : Settings) (β : ℕ) (t : List ℕ) (i n : ℕ) : Type 0 where
  pub so_far : joins.Joined (later_bits β) (segment_step σ) t i n
  pub short : n ≤ i
  pub inside : i ≤ length t

pub later_start : (σ : Settings) (β : ℕ) (t : List ℕ) (i : ℕ) → i ≡ 0 → LaterAt σ β t i 0
unfolding joins.joined_none
later_start σ β t i e =
    subst (λ (j : ℕ). LaterAt σ β t j 0) (sym e)
    (record { so_far = joins.joined_none (later_bits β) (segment_step σ) t; short = omega arith; inside = omega arith })

module _ {σ : Settings} {β : ℕ} {t : List ℕ} {i n : ℕ} (v : LaterAt σ β t i n) (r : Next) (e : r ≡ next_of σ t i) where
  pub later_end : r ≡ Next'.End → Measures (each (later_bits β) (cut σ t)) (length t) (Ok n)
  unfolding cut
  later_end q = record {
    answer = rw (joins.joined_end (later_bits β) v.so_far (at_end σ t i r e q)) (ap (λ (k : ℕ). Ok k) (sym v.so_far.count));
    within = omega (arith, v.short, v.inside);
  }

  pub later_remainder : r ≡ Next'.Remainder → Measures (each (later_bits β) (cut σ t)) (length t) (Err (misfit_at i))
  unfolding cut
  later_remainder q =
      let k = at_remainder σ t i r e q in
      record { answer = rw (joins.joined_remainder (later_bits β) v.so_far k.0 k.1); within = v.inside }

  module _ (s o u : ℕ) (c : Cursor) (q : r ≡ Next'.Segment s o u c) where
    unit : UnitAt σ t i s o u c.at
    unit = here σ t i r e s o u c q

    room : i + suc unit.more ≤ length t
    room = omega (arith, unit.next, unit.inside)

    pub later_fits : n + (u - 1 - (s + o)) ≤ length t
    later_fits = omega (arith, v.short, unit.start, unit.some, unit.ends, unit.inside)

    module _ (b : ℕ) (d : Bool) (eb : b ≡ get_or t s 0) (ed : d ≡ all_digits β (take (u - 1 - (s + o)) (drop (s + o) t))) where
      means_by : (x : Bool) → (eqb b 39 && d) ≡ x
          → later_bits β (take (u - s) (drop s t)) ≡ (if x then means (take (u - 1 - (s + o)) (drop (s + o) t)) else fails 0)
      means_by x k = later_by unit β b d eb ed ∙ rw k

      pub later_refused : not (eqb b 39 && d) ≡ true → Measures (each (later_bits β) (cut σ t)) (length t) (Err (misfit_at s))
      unfolding cut
      later_refused k = record {
        answer =
            rw
            (joins.joined_refused (later_bits β) v.so_far unit.more (take (u - s) (drop s t)) 0 room unit.step
            (means_by false (not-true (eqb b 39 && d) k)))
            (let z : s ≡ i + 0 = omega (arith, unit.start) in ap (λ (k : ℕ). Err (misfit_at k)) z);
        within = omega (arith, unit.some, unit.ends, unit.inside);
      }

      pub later_turn : not (eqb b 39 && d) ≡ false → LaterAt σ β t c.at (n + (u - 1 - (s + o)))
      later_turn k = record {
        so_far =
            joins.joined_more (later_bits β) v.so_far unit.more (take (u - s) (drop s t)) (take (u - 1 - (s + o)) (drop (s + o) t)) c.at
            (n + (u - 1 - (s + o))) room unit.step (means_by true (not-false (eqb b 39 && d) k)) unit.next (ap (n +◌) (body_length unit));
        short = omega (arith, v.short, unit.start, unit.some, unit.ends);
        inside = unit.inside;
      }

-- WRITING into a buffer that held d, for which there is room: the bodies before i are there, of n bytes
pub put_start : (σ : Settings) (t d : List ℕ) (i : ℕ) → i ≡ 0 → Writing (body_step σ) t d d i 0
put_start σ t d i e = subst (λ (j : ℕ). Writing (body_step σ) t d d j 0) (sym e) (writing_none (body_step σ) t d)

module _ {σ : Settings} {t d out : List ℕ} {i n : ℕ} (w : Writing (body_step σ) t d out i n) (h : BodiesFit σ t (length d)) (r : Next) (e : r ≡ next_of σ t i) where
  roomy : Roomy (walk (body_step σ) 0 t) (length d)
  roomy = record { goes = h.goes; fits = h.fits }

  pub put_end : r ≡ Next'.End → out ≡ filled (bodies σ t) d
  unfolding filled
  put_end q = (writing_end w roomy (at_end σ t i r e q)).1 ∙ rw (le-leb (length (bodies σ t)) (length d) h.fits)

  pub put_remainder : r ≡ Next'.Remainder → out ≡ filled (bodies σ t) d
  unfolding body_step
  put_remainder q =
      let k = at_remainder σ t i r e q in
      absurd (false≢true (sym h.goes ∙ stops_here w.so_far k.0 (ap body_by k.1)))

  pub put_within : n ≤ length out
  put_within = omega (arith, writing_within w roomy, w.same)

  module _ (s o u : ℕ) (c : Cursor) (q : r ≡ Next'.Segment s o u c) where
    at : UnitAt σ t i s o u c.at
    at = here σ t i r e s o u c q

    inside : i < length t
    inside = omega (arith, at.start, at.some, at.ends, at.inside)

    step : body_step σ (drop i t) ≡ give at.more (take (u - 1 - (s + o)) (drop (s + o) t))
    unfolding at
    step = body_step_lem σ t i r e s o u c q

    lent : n + length (take (u - 1 - (s + o)) (drop (s + o) t)) ≤ length d
    lent = writing_room w roomy (body_steady σ) (give at.more (take (u - 1 - (s + o)) (drop (s + o) t))) inside step

    pub put_fits : n + (u - 1 - (s + o)) ≤ length out
    put_fits = omega (arith, lent, w.same, body_length at)

    pub put_turn : (last : List ℕ) → last ≡ filled (take (u - 1 - (s + o)) (drop (s + o) t)) (take (length out - n) (drop n out))
        → Writing (body_step σ) t d (take n out ++ (last ++ drop (length out - n) (drop n out))) c.at (n + (u - 1 - (s + o)))
    put_turn last l =
        writing_turn w roomy (body_steady σ) (give at.more (take (u - 1 - (s + o)) (drop (s + o) t))) inside step c.at (n + (u - 1 - (s + o)))
        (take (u - 1 - (s + o)) (drop (s + o) t)) last refl at.next (ap (n +◌) (body_length at)) l
