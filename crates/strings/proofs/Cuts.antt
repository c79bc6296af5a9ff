-- Whether a text goes on behind its first segment. Assumes nothing.
use mathlib.Core.Path.{◌≡◌, refl, ap, sym, ◌∙◌}
use mathlib.Core.Bool.{Bool, false}
use mathlib.Core.List.{List}
use Prim.Native.Nat.{ℕ, zero, suc, ◌+◌, ◌≤◌, ◌<◌}
use native.Mathlib.Omega.{arith}
use lib.ListN.{length, drop, get_or, length-drop}
use lib.Seq.{get_or-drop, drop-drop}
use borrow.Author.Tests.{lt-ltb}
use Rattle.meaning.specs.declared.Settings.{Settings}
use Rattle.meaning.specs.Bytes.{◌!◌, is_mark}
use Rattle.meaning.specs.Steps.{gap, trim}
use Rattle.meaning.specs.Cutting.{opening, segment, continues}
use Rattle.laws.proofs.cutting.Gaps.{gap_fits}
use Rattle.laws.proofs.cutting.Openings.{segment_fits}
use Rattle.cutting.specs.Segments.{found_by, segment_of}
use Rattle.cutting.specs.declared.segments.Segment.{Segment}
use Rattle.std.specs.Prelude.{Option, Some, None}

found_bytes : (σ : Settings) (t : List ℕ) (r : Option Segment) (π : Segment) → r ≡ segment_of σ t → r ≡ Some π → (segment σ t ≡ π.len) × (0 < π.len)
unfolding segment_of
found_bytes σ t r π e q = go (segment σ t) refl (sym e ∙ q)
  where
    go : (x : ℕ) → segment σ t ≡ x → found_by (opening t) x ≡ Some π → (segment σ t ≡ π.len) × (0 < π.len)
    go zero s f = let z : ◌≡◌ {A = ℕ} 0 1 = cc in absurd (omega arith)
    go (suc k) s f =
        let w : record { opening = opening t; len = suc k } ≡ π = cc in
        let z : suc k ≡ π.len = ap (λ (x : Segment). x.len) w in
        (s ∙ z, omega arith)

-- the byte behind a gap
pub behind_gap : (t : List ℕ) (i : ℕ) → t ! (i + gap (drop i t)) ≡ trim (drop i t) ! 0
behind_gap t i =
    let z : i + gap (drop i t) + 0 ≡ i + gap (drop i t) = omega arith in
    ap (t !◌) (sym z) ∙ sym (get_or-drop (i + gap (drop i t)) t 0 0) ∙ ap (◌! 0) (sym (drop-drop (gap (drop i t)) i t))

-- DOES IT GO ON
module _ (σ : Settings) (t : List ℕ) (r : Option Segment) (e : r ≡ segment_of σ t) where
  pub goes_not_on : r ≡ None → false ≡ continues σ t
  unfolding segment_of continues
  goes_not_on q = go (segment σ t) refl (sym e ∙ q)
    where
      go : (x : ℕ) → segment σ t ≡ x → found_by (opening t) x ≡ None → false ≡ continues σ t
      go zero s f = rw s
      go (suc k) s f = let z : ◌≡◌ {A = ℕ} 0 1 = cc in absurd (omega arith)

  module _ (π : Segment) (q : r ≡ Some π) (g : ℕ) (eg : g ≡ gap (drop π.len t)) where
    pub gap_inside : π.len + g ≤ length t
    gap_inside = go π.len (found_bytes σ t r π e q) eg
      where
        go : (n : ℕ) → (segment σ t ≡ n) × (0 < n) → g ≡ gap (drop n t) → n + g ≤ length t
        go zero s k = absurd (let z = s.1 in omega arith)
        go (suc m) s k = omega (arith, segment_fits σ t m s.0, gap_fits (drop (suc m) t), length-drop (suc m) t)

    pub goes_on : (b : ℕ) (x : Bool) → b ≡ get_or t (π.len + g) 0 → x ≡ is_mark b → x ≡ continues σ t
    unfolding continues
    goes_on b x eb ex =
        let s = found_bytes σ t r π e q in
        let d : trim (drop π.len t) ! 0 ≡ b = sym (behind_gap t π.len) ∙ ap (λ (m : ℕ). t ! (π.len + m)) (sym eg) ∙ sym eb in
        ex ∙ sym (rw (s.0, lt-ltb 0 π.len s.1) (ap is_mark d))
