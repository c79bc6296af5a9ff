-- The first segment, by its opening and what the search for its closing mark answers. Assumes nothing.
use mathlib.Core.Path.{◌≡◌, refl, sym, ap, ◌∙◌}
use mathlib.Core.Bool.{Bool, true, false, ◌||◌, or_assoc, or-false}
use mathlib.Core.List.{List}
use Prim.Native.Nat.{ℕ, zero, suc, ◌+◌, ◌-◌, ◌≤◌, ◌<◌}
use native.Mathlib.Numerals.{add-one}
use native.Mathlib.Omega.{arith}
use lib.Dec.{eqb}
use lib.ListN.{length, take, drop, length-drop}
use Rattle.meaning.specs.declared.Settings.{Settings}
use Rattle.meaning.specs.Bytes.{◌!◌, is_mark}
use Rattle.std.specs.Prelude.{if◌then◌else◌}
use Rattle.meaning.specs.Walk.{Trace, walk, size, stops}
use Rattle.meaning.specs.Steps.{closing_step}
use Rattle.meaning.specs.Cutting.{opening, hides, closed_at, segment}
use Rattle.laws.proofs.basics.Tests.{true→T}
use Rattle.laws.proofs.basics.Lists.{part_tail}
use Rattle.laws.proofs.walking.Walks.{stops_inside}
use Rattle.laws.proofs.cutting.Openings.{opening_mark, mark_inside}
use Rattle.cutting.specs.declared.marks.Mark.{Mark}
use Rattle.cutting.specs.Marks.{mark_of, closed_of}
use Rattle.cutting.specs.Segments.{segment_of}
use Rattle.std.specs.Prelude.{Option, Some, None}

-- what a search's answer says of its course
pub course_at : (r : Trace) (p : ℕ) → closed_of r ≡ Some p → (stops r ≡ true) × (size r ≡ p)
course_at r p e = go (stops r) refl e
  where
    go : (x : Bool) → stops r ≡ x → (if x then Some (size r) else None) ≡ Some p → (stops r ≡ true) × (size r ≡ p)
    go true s f = (s, cc)
    go false s f = let z : ◌≡◌ {A = ℕ} 0 1 = cc in absurd (omega arith)

pub course_unclosed : (r : Trace) → closed_of r ≡ None → stops r ≡ false
course_unclosed r e = go (stops r) refl e
  where
    go : (x : Bool) → stops r ≡ x → (if x then Some (size r) else None) ≡ None → stops r ≡ false
    go true s f = let z : ◌≡◌ {A = ℕ} 0 1 = cc in absurd (omega arith)
    go false s f = s

-- no opening, no segment
pub segment_none : (σ : Settings) (l : List ℕ) (o : ℕ) → o ≡ opening l → o ≡ 0 → None ≡ segment_of σ l
unfolding segment_of segment
segment_none σ l o e z = rw (← e, z)

-- the mark of an opening of o bytes is its last byte, inside the text
pub opened_mark : (l : List ℕ) (o : ℕ) → o ≡ opening l → (o ≡ 0 → ⊥) → is_mark (l ! (o - 1)) ≡ true
opened_mark l zero e z = absurd (z refl)
opened_mark l (suc n) e z = let k : suc n - 1 ≡ n = omega arith in rw k (opening_mark l n (sym e))

pub opened_inside : (l : List ℕ) (o : ℕ) → o ≡ opening l → (o ≡ 0 → ⊥) → o - 1 < length l
opened_inside l o e z = mark_inside l (o - 1) (opened_mark l o e z)

pub opened_fits : (l : List ℕ) (o : ℕ) → o ≡ opening l → (o ≡ 0 → ⊥) → o ≤ length l
opened_fits l o e z = let i = opened_inside l o e z in omega arith

segment_by_lem : (σ : Settings) (l : List ℕ) (o : ℕ) → o ≡ opening l → (o ≡ 0 → ⊥)
    → segment σ l ≡ closed_at o (walk (closing_step (hides σ l) (l ! (o - 1))) 0 (drop o l))
unfolding segment
segment_by_lem σ l zero e z = absurd (z refl)
segment_by_lem σ l (suc n) e z = let k : suc n - 1 ≡ n = omega arith in rw (← e, k)

-- what the search behind the opening answers
pub record Searched (σ : Settings) (l : List ℕ) (o : ℕ) (r : Option ℕ) : Type 0 where
  pub opens : o ≡ opening l
  pub some : o ≡ 0 → ⊥
  pub answers : r ≡ closed_of (walk (closing_step (hides σ l) (l ! (o - 1))) 0 (drop o l))

pub searched : (σ : Settings) (l : List ℕ) (o : ℕ) (r : Option ℕ) → o ≡ opening l → (o ≡ 0 → ⊥) → (m : Mark)
    → (is_mark (l ! (o - 1)) ≡ true → mark_of m ≡ l ! (o - 1))
    → (h : Bool) → h ≡ hides σ l → r ≡ closed_of (walk (closing_step h (mark_of m)) 0 (take (length l - o) (drop o l))) → Searched σ l o r
searched σ l o r e z m em h eh er = record {
  opens = e;
  some = z;
  answers =
      er ∙ ap (λ (t : List ℕ). closed_of (walk (closing_step h (mark_of m)) 0 t)) (part_tail l o)
      ∙ ap (λ (x : Bool). closed_of (walk (closing_step x (mark_of m)) 0 (drop o l))) eh
      ∙ ap (λ (q : ℕ). closed_of (walk (closing_step (hides σ l) q) 0 (drop o l))) (em (opened_mark l o e z));
}

module _ {σ : Settings} {l : List ℕ} {o : ℕ} {r : Option ℕ} (s : Searched σ l o r) where
  pub segment_found : (p : ℕ) → r ≡ Some p → Some (record { opening = o; len = o + p + 1 }) ≡ segment_of σ l
  unfolding segment_of
  segment_found p e =
      let t = course_at (walk (closing_step (hides σ l) (l ! (o - 1))) 0 (drop o l)) p (sym s.answers ∙ e) in
      rw (← s.opens, segment_by_lem σ l o s.opens s.some, t.0, t.1, add-one (o + p))

  pub segment_unclosed : r ≡ None → None ≡ segment_of σ l
  unfolding segment_of
  segment_unclosed e =
      let t = course_unclosed (walk (closing_step (hides σ l) (l ! (o - 1))) 0 (drop o l)) (sym s.answers ∙ e) in
      rw (segment_by_lem σ l o s.opens s.some, t)

  pub found_inside : (p : ℕ) → r ≡ Some p → o + p < length l
  found_inside p e =
      let t = course_at (walk (closing_step (hides σ l) (l ! (o - 1))) 0 (drop o l)) p (sym s.answers ∙ e) in
      let i = stops_inside (closing_step (hides σ l) (l ! (o - 1))) 0 (drop o l) (true→T _ t.0) in
      omega (arith, length-drop o l, t.1)
