-- What stands at a place of a text, by what the first segment from there is: the answer, and that its places lie inside the text. Assumes nothing.
use mathlib.Core.Path.{◌≡◌, refl, sym, ap, ◌∙◌}
use mathlib.Core.List.{List}
use Prim.Native.Nat.{ℕ, zero, suc, ◌+◌, ◌-◌, ◌≤◌, ◌<◌}
use native.Mathlib.Omega.{arith}
use lib.Dec.{ltb}
use lib.ListN.{length, take, drop, length-drop}
use borrow.Author.Tests.{lt-ltb, le-ltb}
use Rattle.meaning.specs.declared.Settings.{Settings}
use Rattle.meaning.specs.Steps.{gap}
use Rattle.meaning.specs.Cutting.{opening, segment}
use Rattle.laws.proofs.basics.Lists.{part_tail}
use Rattle.laws.proofs.cutting.Gaps.{gap_fits}
use Rattle.laws.proofs.cutting.Openings.{segment_fits}
use Rattle.cutting.specs.declared.cursor.Next.TheVariants as Next'
use Rattle.cutting.specs.declared.segments.Segment.{Segment}
use Rattle.std.specs.Prelude.{Option, Some, None}
use Rattle.std.specs.Prelude.{if◌then◌else◌}
use Rattle.cutting.specs.Segments.{found_by, segment_of, next_by, next_of}

-- what a first segment is made of: its opening, and its bytes, of which there is one at least
record Parts (σ : Settings) (t : List ℕ) (o n : ℕ) : Type 0 where
  opens : opening t ≡ o
  bytes : segment σ t ≡ n
  some : 0 < n

parts : (σ : Settings) (t : List ℕ) (π : Segment) → segment_of σ t ≡ Some π → Parts σ t π.opening π.len
unfolding segment_of
parts σ t π e = go (segment σ t) refl e
  where
    go : (x : ℕ) → segment σ t ≡ x → found_by (opening t) x ≡ Some π → Parts σ t π.opening π.len
    go zero s f = let z : ◌≡◌ {A = ℕ} 0 1 = cc in absurd (omega arith)
    go (suc k) s f =
        let w : record { opening = opening t; len = suc k } ≡ π = cc in
        let m : suc k ≡ π.len = ap (λ (x : Segment). x.len) w in
        record { opens = ap (λ (x : Segment). x.opening) w; bytes = s ∙ m; some = omega arith }

none : (σ : Settings) (t : List ℕ) → segment_of σ t ≡ None → segment σ t ≡ 0
unfolding segment_of
none σ t e = go (segment σ t) refl e
  where
    go : (x : ℕ) → segment σ t ≡ x → found_by (opening t) x ≡ None → segment σ t ≡ 0
    go zero s f = s
    go (suc k) s f = let z : ◌≡◌ {A = ℕ} 0 1 = cc in absurd (omega arith)

pub next_end : (σ : Settings) (l : List ℕ) (at : ℕ) → length l ≤ at → Next'.End ≡ next_of σ l at
unfolding next_of
next_end σ l at h = rw (le-ltb at (length l) h)

module _ (σ : Settings) (l : List ℕ) (at : ℕ) (i : at < length l) (s : Option Segment) (es : s ≡ segment_of σ (take (length l - at) (drop at l))) where
  here : s ≡ segment_of σ (drop at l)
  here = es ∙ ap (segment_of σ) (part_tail l at)

  pub next_remainder : s ≡ None → Next'.Remainder ≡ next_of σ l at
  unfolding next_of
  next_remainder e = rw (lt-ltb at (length l) i, none σ (drop at l) (sym here ∙ e))

  module _ (π : Segment) (e : s ≡ Some π) where
    own : Parts σ (drop at l) π.opening π.len
    own = parts σ (drop at l) π (sym here ∙ e)

    pub segment_inside : at + π.len ≤ length l
    segment_inside = go π.len refl own.bytes
      where
        go : (n : ℕ) → n ≡ π.len → segment σ (drop at l) ≡ n → at + n ≤ length l
        go zero k f = omega arith
        go (suc n) k f = omega (arith, segment_fits σ (drop at l) n f, length-drop at l)

    pub gap_inside : (g : ℕ) → g ≡ gap (drop (at + π.len) l) → at + π.len + g ≤ length l
    gap_inside g eg = omega (arith, segment_inside, gap_fits (drop (at + π.len) l), length-drop (at + π.len) l)

    pub next_segment : (g : ℕ) → g ≡ gap (drop (at + π.len) l) → Next'.Segment at π.opening (at + π.len) (record { at = at + π.len + g }) ≡ next_of σ l at
    unfolding next_of
    next_segment g eg = go π.len refl own.bytes
      where
        go : (n : ℕ) → n ≡ π.len → segment σ (drop at l) ≡ n
            → Next'.Segment at π.opening (at + π.len) (record { at = at + π.len + g }) ≡ (if ltb at (length l) then next_by l at (opening (drop at l)) (segment σ (drop at l)) else Next'.End)
        go zero k f = absurd (let h = own.some in omega arith)
        go (suc n) k f = rw (eg, lt-ltb at (length l) i, own.opens, f, ← k)
