-- What stands at a cursor, as a step of the cut: nothing, no segment, or a segment with its opening and its body. Assumes nothing.
use mathlib.Core.Path.{◌≡◌, refl, ap, sym, ◌∙◌}
use mathlib.Core.Bool.{Bool, true, false}
use mathlib.Core.List.{List}
use Prim.Native.Nat.{ℕ, zero, suc, ◌+◌, ◌-◌, ◌≤◌, ◌<◌}
use native.Mathlib.Omega.{arith}
use lib.Dec.{ltb}
use lib.ListN.{length, take, drop, length-drop, take-append-drop}
use lib.Seq.{drop-drop, length-take-le}
use borrow.Author.Tests.{ltb-true, ltb-false}
use Rattle.meaning.specs.declared.Settings.{Settings}
use Rattle.std.specs.Prelude.{if◌then◌else◌}
use Rattle.meaning.specs.Walk.{give, stop}
use Rattle.meaning.specs.Steps.{gap}
use Rattle.meaning.specs.Cutting.{opening, segment, segment_by, segment_step}
use Rattle.laws.proofs.cutting.Gaps.{gap_fits}
use Rattle.laws.proofs.cutting.Openings.{segment_of_lem, segment_fits}
use Rattle.laws.proofs.cutting.Alone.{opening_back}
use Rattle.cutting.specs.Segments.{next_by, next_of}
use Rattle.cutting.specs.declared.cursor.Cursor.{Cursor}
use Rattle.cutting.specs.declared.cursor.Next.{Next}
use Rattle.cutting.specs.declared.cursor.Next.TheVariants as Next'

-- the opening of a segment's own text: one byte at least, before the last
pub opening_own : (σ : Settings) (t : List ℕ) (o n : ℕ) → segment σ t ≡ suc n → opening t ≡ o → (opening (take (suc n) t) ≡ o) × (0 < o) × (o < suc n)
opening_own σ t o n e q =
    let s = segment_of_lem σ t n e in
    let m : ℕ = s.0 in
    let l : length (take (suc n) t) ≡ suc n = length-take-le (suc n) t (segment_fits σ t n e) in
    let k = s.3 in
    let p = opening_back (take (suc n) t) (drop (suc n) t) m (rw (take-append-drop (suc n) t) s.1) (omega arith) in
    (p ∙ sym s.1 ∙ q, omega (arith, s.1, q), omega (arith, s.1, q))

-- a segment from s to u with an opening of o bytes, and the place v behind the white space that follows
pub record UnitAt (σ : Settings) (t : List ℕ) (i s o u v : ℕ) : Type 0 where
  pub start : s ≡ i
  pub opens : opening (take (u - s) (drop s t)) ≡ o
  pub mark : 0 < o
  pub some : s + o < u
  pub ends : u ≤ v
  pub inside : v ≤ length t
  pub more : ℕ
  pub next : i + suc more ≡ v
  pub step : segment_step σ (drop i t) ≡ give more (take (u - s) (drop s t))

module _ (σ : Settings) (t : List ℕ) (i : ℕ) (r : Next) (e : r ≡ next_of σ t i) where
  pub at_end : r ≡ Next'.End → length t ≤ i
  unfolding next_of
  at_end q = go (ltb i (length t)) refl (segment σ (drop i t)) (sym e ∙ q)
    where
      go : (x : Bool) → ltb i (length t) ≡ x → (n : ℕ) → (if x then next_by t i (opening (drop i t)) n else Next'.End) ≡ Next'.End → length t ≤ i
      go true h zero f = let z : ◌≡◌ {A = ℕ} 0 1 = cc in absurd (omega arith)
      go true h (suc n) f = let z : ◌≡◌ {A = ℕ} 0 1 = cc in absurd (omega arith)
      go false h n f = ltb-false i (length t) h

  pub at_remainder : r ≡ Next'.Remainder → (i < length t) × (segment_step σ (drop i t) ≡ stop)
  unfolding next_of segment_step
  at_remainder q = go (ltb i (length t)) refl (segment σ (drop i t)) refl (sym e ∙ q)
    where
      go : (x : Bool) → ltb i (length t) ≡ x → (n : ℕ) → segment σ (drop i t) ≡ n
          → (if x then next_by t i (opening (drop i t)) n else Next'.End) ≡ Next'.Remainder
          → (i < length t) × (segment_by (drop i t) (segment σ (drop i t)) ≡ stop)
      go true h zero s f = (ltb-true i (length t) h, rw s)
      go true h (suc n) s f = let z : ◌≡◌ {A = ℕ} 0 1 = cc in absurd (omega arith)
      go false h n s f = let z : ◌≡◌ {A = ℕ} 0 1 = cc in absurd (omega arith)

  unfoldable pub at_segment : (s o u : ℕ) (c : Cursor) → r ≡ Next'.Segment s o u c → UnitAt σ t i s o u c.at
  unfolding next_of segment_step
  at_segment s o u c q = go (ltb i (length t)) refl (segment σ (drop i t)) refl (sym e ∙ q)
    where
      go : (x : Bool) → ltb i (length t) ≡ x → (n : ℕ) → segment σ (drop i t) ≡ n
          → (if x then next_by t i (opening (drop i t)) n else Next'.End) ≡ Next'.Segment s o u c → UnitAt σ t i s o u c.at
      go true h zero k f = let z : ◌≡◌ {A = ℕ} 0 1 = cc in absurd (omega arith)
      go true h (suc n) k f =
          let a : i ≡ s = cc in
          let b : i + suc n ≡ u = cc in
          let d : record { at = i + suc n + gap (drop (i + suc n) t) } ≡ c = cc in
          let w : i + suc n + gap (drop (i + suc n) t) ≡ c.at = ap (λ (x : Cursor). x.at) d in
          let l = segment_fits σ (drop i t) n k in
          let g : drop (suc n) (drop i t) ≡ drop (i + suc n) t = drop-drop (suc n) i t in
          let j = gap_fits (drop (i + suc n) t) in
          let m : u - s ≡ suc n = omega arith in
          let y : take (suc n) (drop i t) ≡ take (u - s) (drop s t) = ap (λ (y : ℕ). take y (drop i t)) (sym m) ∙ ap (λ (y : ℕ). take (u - s) (drop y t)) a in
          let p = opening_own σ (drop i t) o n k cc in
          record {
            start = sym a;
            opens = ap opening (sym y) ∙ p.0;
            mark = p.1;
            some = omega (arith, p.2);
            ends = omega arith;
            inside = omega (arith, length-drop i t, length-drop (i + suc n) t);
            more = n + gap (drop (suc n) (drop i t));
            next = omega (arith, ap gap g);
            step = rw k (ap (give (n + gap (drop (suc n) (drop i t)))) y);
          }
      go false h n k f = let z : ◌≡◌ {A = ℕ} 0 1 = cc in absurd (omega arith)
