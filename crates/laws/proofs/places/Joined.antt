-- In joined text the segment's start is added, and the first refused segment counts; a remainder that is no segment gives its own start. Of every text that
-- continues, by its cut (`cut_place`, `cut_remainder`); and of given segments with white space between (`first_place`, `joined_place`, `remainder_place`).
-- Assumes nothing.
use mathlib.Core.Logic.{◌⊎◌}
use mathlib.Core.Path.{◌≡◌, refl, ap, sym, ◌∙◌}
use mathlib.Core.Bool.{true, false, false≢true}
use mathlib.Core.List.{List, [], ◌∷◌, ◌++◌}
use Prim.Native.Nat.{ℕ, suc, ◌+◌, ◌<◌}
use native.Mathlib.Nat.{zero-add, add-zero}
use native.Mathlib.Omega.{arith}
use borrow.Author.Tests.{lt-ltb}
use lib.ListN.{length, take, length-append, get_or-append}
use lib.Seq.{take-append_seam, drop-append_seam, length-take-le}
use Rattle.meaning.specs.declared.Settings.{Settings}
use Rattle.meaning.specs.Bytes.{◌!◌, is_mark}
use Rattle.meaning.specs.Cutting.{continues, segment, segment_step, cut}
use Rattle.meaning.specs.Reading.{refused, Value, fails, each, alone, joined, as_written, read, meaning}
use Rattle.meaning.specs.Steps.{gap, trim}
use Rattle.meaning.specs.Walk.{Trace, ended, stopped, kept, gave, size}
use Rattle.laws.proofs.cutting.Cuts.{segments_of, covered, Each, Values}
use Rattle.laws.proofs.cutting.Gaps.{gap_fits}
use Rattle.laws.proofs.cutting.Openings.{segment_extend}
use Rattle.laws.proofs.joining.Segments.{Whole, Accepted, alone_meaning, values_same, values_of, continues_read}
use Rattle.laws.proofs.joining.Strung.{Further, behind, strung, segments, cut_of, cut_of_segments, cut_of_covered, gap_mark, cut_first, gap_ends}
use Rattle.laws.proofs.joining.Strung.{strung_cut}
use Rattle.laws.proofs.walking.Walks.{graft}

-- A COURSE OF SEGMENTS that f accepts, and behind it one that f refuses: the place moves on by the bytes before it
each_behind : (f : List ℕ → Value) (left right : Trace) (vs : List (List ℕ)) (q : ℕ) → covered left ≡ true → Values f (segments_of left) vs
    → each f right ≡ fails q → each f (graft left right) ≡ fails (size left + q)
each_behind f ended right vs q c a h = rw (zero-add q) h
each_behind f stopped right vs q c a h = absurd (false≢true c)
each_behind f (kept b r) right vs q c a h = absurd (false≢true c)
each_behind f (gave n s r) right [] q c a h = absurd a
each_behind f (gave n s r) right (v ∷ vs) q c a h = rw (a.0, each_behind f r right vs q c a.1 h) (ap fails (omega arith))

module _ (f : List ℕ → Value) (left : Trace) (vs : List (List ℕ)) (all : covered left ≡ true) (accepted : Values f (segments_of left) vs) where
  -- the next segment is refused at q of its own bytes, whatever follows
  pub each_refused : (n : ℕ) (s : List ℕ) (r : Trace) (q : ℕ) → f s ≡ fails q → each f (graft left (gave n s r)) ≡ fails (size left + q)
  each_refused n s r q h = each_behind f left (gave n s r) vs q all accepted (rw h)

  -- no segment stands next
  pub each_stopped : each f (graft left stopped) ≡ fails (size left)
  each_stopped = each_behind f left stopped vs 0 all accepted refl ∙ ap fails (add-zero (size left))

-- STRUNG SEGMENTS: their cut takes all their bytes, and g behind the last; each is one segment
cut_of_size : {σ : Settings} (s : List ℕ) (ps : List (Further σ)) (g : List ℕ) → 0 < length s → size (cut_of s ps g) ≡ length (strung s ps g)
cut_of_size s [] g h = rw (length-append s g) (omega arith)
cut_of_size s (p ∷ ps) g h =
    let i : size (cut_of p.text ps g) ≡ length (strung p.text ps g) = cut_of_size p.text ps g p.whole.some in
    rw (length-append s (behind (p ∷ ps) g), length-append p.gap (strung p.text ps g)) (omega arith)

segments_whole : {σ : Settings} (s : List ℕ) (ps : List (Further σ)) → Whole σ s → Each (Whole σ) (segments s ps)
segments_whole s [] w = (w, tt)
segments_whole s (p ∷ ps) w = (w, segments_whole p.text ps p.whole)

-- the last of them and what follows it, as a text behind the others
behind_last : {σ : Settings} (ps : List (Further σ)) (p : Further σ) (rest : List ℕ) → behind (ps ++ (p ∷ [])) rest ≡ behind ps (p.gap ++ (p.text ++ rest))
behind_last [] p rest = refl
behind_last (p' ∷ ps) p rest = ap (λ (t : List ℕ). p'.gap ++ (p'.text ++ t)) (behind_last ps p rest)

-- what follows the first segment, past white space
abbrev pub second : {σ : Settings} → List (Further σ) → List ℕ → List ℕ
second [] tail = trim tail
second (p ∷ ps) tail = p.text

module _ (σ : Settings) where
  -- no mark stands behind the first segment itself
  behind_mark : (ps : List (Further σ)) (tail : List ℕ) → is_mark (tail ! 0) ≡ false → is_mark (behind ps tail ! 0) ≡ false
  behind_mark [] tail m = m
  behind_mark (p ∷ ps) tail m = gap_mark p.gap (p.text ++ behind ps tail) p.white

  second_begins : (ps : List (Further σ)) (tail : List ℕ) → trim (behind ps tail) ! 0 ≡ second ps tail ! 0
  second_begins [] tail = refl
  second_begins (p ∷ ps) tail =
      rw (gap_ends σ p.gap p.text (behind ps tail) p.white p.whole, drop-append_seam p.gap (p.text ++ behind ps tail))
      (get_or-append p.text (behind ps tail) 0 0 p.whole.some)

  pub strung_continues : (s : List ℕ) (ps : List (Further σ)) (tail : List ℕ) → Whole σ s → is_mark (tail ! 0) ≡ false
      → is_mark (second ps tail ! 0) ≡ true → continues σ (strung s ps tail) ≡ true
  unfolding continues
  strung_continues [] ps tail w m c = absurd (omega (arith, w.some))
  strung_continues (b ∷ s) ps tail w m c =
      rw (
        segment_extend σ (b ∷ s) (behind ps tail) (length s) (behind_mark ps tail m) w.all,
        lt-ltb 0 (suc (length s)) (omega arith),
        drop-append_seam s (behind ps tail),
        second_begins ps tail,
      )
      c

  -- BY THE CUT ITSELF, whatever stands between its segments, or nothing
  module _ (t : List ℕ) (goes_on : continues σ t ≡ true) (left : Trace) (vs : List (List ℕ)) (all : covered left ≡ true)
      (accepted : Values (alone σ) (segments_of left) vs) where
    pub cut_place : (n : ℕ) (s : List ℕ) (r : Trace) (q : ℕ) → cut σ t ≡ graft left (gave n s r) → alone σ s ≡ fails q → read σ t ≡ refused (size left + q)
    cut_place n s r q e h = continues_read σ t goes_on ∙ ap as_written (ap (joined σ) e ∙ each_refused (alone σ) left vs all accepted n s r q h)

    pub cut_remainder : cut σ t ≡ graft left stopped → read σ t ≡ refused (size left)
    cut_remainder e = continues_read σ t goes_on ∙ ap as_written (ap (joined σ) e ∙ each_stopped (alone σ) left vs all accepted)

  -- SEGMENTS THAT ARE ACCEPTED, and what is refused behind them
  module _ (s : List ℕ) (ps : List (Further σ)) (first : Whole σ s) (accepted : Each (Accepted σ) (segments s ps)) where
    abbrev left : List ℕ → Trace
    left tail = cut_of s ps (take (gap tail) tail)

    strung_values : (tail : List ℕ) → (vs : List (List ℕ)) × Values (alone σ) (segments_of (left tail)) vs
    strung_values tail =
        let r = values_of σ (segments s ps) accepted in (
          r.0,
          rw (cut_of_segments s ps (take (gap tail) tail))
              (values_same σ (meaning σ) (alone σ) (λ u w. sym (alone_meaning σ u w)) (segments s ps) r.0 (segments_whole s ps first) r.1),
        )

    strung_refused : (tail : List ℕ) (q : ℕ) → is_mark (tail ! 0) ≡ false → is_mark (second ps tail ! 0) ≡ true → joined σ (cut σ (trim tail)) ≡ fails q
        → read σ (strung s ps tail) ≡ refused (length (strung s ps (take (gap tail) tail)) + q)
    strung_refused tail q m c h =
        let v = strung_values tail in
        continues_read σ (strung s ps tail) (strung_continues s ps tail first m c)
        ∙ ap as_written
        (ap (joined σ) (strung_cut σ s ps tail first m)
        ∙ each_behind (alone σ) (left tail) (cut σ (trim tail)) v.0 q (cut_of_covered s ps (take (gap tail) tail)) v.1 h
        ∙ ap (λ (n : ℕ). fails (n + q)) (cut_of_size s ps (take (gap tail) tail) first.some))

  -- a segment that is refused, at the front of a text
  front_refused : (s rest : List ℕ) (q : ℕ) → Whole σ s → meaning σ s ≡ fails q → is_mark (rest ! 0) ≡ false → joined σ (cut σ (s ++ rest)) ≡ fails q
  front_refused s rest q w h m =
      let e : alone σ s ≡ fails q = alone_meaning σ s w ∙ h in
      ap (joined σ) (cut_first σ s rest w m) ∙ rw e

  -- THE FIRST SEGMENT: its own place, whatever follows
  pub first_place : (s rest : List ℕ) (q : ℕ) → Whole σ s → meaning σ s ≡ fails q → is_mark (rest ! 0) ≡ false → is_mark (trim rest ! 0) ≡ true
      → read σ (s ++ rest) ≡ refused q
  first_place s rest q w h m c =
      continues_read σ (s ++ rest) (strung_continues s [] rest w m c) ∙ ap as_written (front_refused s rest q w h m)

  second_last : (ps : List (Further σ)) (p : Further σ) (rest : List ℕ) → second ps (p.gap ++ (p.text ++ rest)) ! 0 ≡ second (ps ++ (p ∷ [])) rest ! 0
  second_last [] p rest = second_begins (p ∷ []) rest
  second_last (p' ∷ ps) p rest = refl

  -- A LATER SEGMENT: the bytes before it, segments and gaps, and then its own place, whatever follows
  pub joined_place : (s : List ℕ) (ps : List (Further σ)) (p : Further σ) (rest : List ℕ) (q : ℕ) → Whole σ s → Each (Accepted σ) (segments s ps)
      → meaning σ p.text ≡ fails q → is_mark (rest ! 0) ≡ false → is_mark (second (ps ++ (p ∷ [])) rest ! 0) ≡ true
      → read σ (strung s (ps ++ (p ∷ [])) rest) ≡ refused (length (strung s ps p.gap) + q)
  joined_place s ps p rest q w a h m c =
      let tail : List ℕ = p.gap ++ (p.text ++ rest) in
      let g : gap tail ≡ length p.gap = gap_ends σ p.gap p.text rest p.white p.whole in
      let d : trim tail ≡ p.text ++ rest = rw g (drop-append_seam p.gap (p.text ++ rest)) in
      let t : take (gap tail) tail ≡ p.gap = rw g (take-append_seam p.gap (p.text ++ rest)) in
      rw (behind_last ps p rest)
      (strung_refused s ps w a tail q (gap_mark p.gap (p.text ++ rest) p.white) (ap is_mark (second_last ps p rest) ∙ c)
      (ap (λ (u : List ℕ). joined σ (cut σ u)) d ∙ front_refused p.text rest q p.whole h m)
      ∙ ap (λ (u : List ℕ). refused (length (strung s ps u) + q)) t)

  -- A REMAINDER, behind white space or none, that is no segment: its start
  no_segment : (u : List ℕ) → segment σ u ≡ 0 → 0 < length u → joined σ (cut σ u) ≡ fails 0
  unfolding cut segment_step
  no_segment [] h l = absurd (omega arith)
  no_segment (b ∷ u) h l = rw h

  strung_length : (s : List ℕ) (ps : List (Further σ)) (g : List ℕ) → length (strung s ps g) ≡ length (strung s ps []) + length g
  strung_length s [] g = omega (arith, length-append s g, length-append s [])
  strung_length s (p ∷ ps) g =
      omega (
        arith,
        length-append s (behind (p ∷ ps) g),
        length-append s (behind (p ∷ ps) []),
        length-append p.gap (strung p.text ps g),
        length-append p.gap (strung p.text ps []),
        strung_length p.text ps g,
      )

  pub remainder_place : (s : List ℕ) (ps : List (Further σ)) (rest : List ℕ) → Whole σ s → Each (Accepted σ) (segments s ps) → is_mark (rest ! 0) ≡ false
      → segment σ (trim rest) ≡ 0 → 0 < length (trim rest) → is_mark (second ps rest ! 0) ≡ true
      → read σ (strung s ps rest) ≡ refused (length (strung s ps []) + gap rest)
  remainder_place s ps rest w a m h l c =
      let n : length (strung s ps (take (gap rest) rest)) + 0 ≡ length (strung s ps []) + gap rest =
      omega (arith, strung_length s ps (take (gap rest) rest), length-take-le (gap rest) rest (gap_fits rest)) in
      strung_refused s ps w a rest 0 m c (no_segment (trim rest) h l) ∙ ap refused n
