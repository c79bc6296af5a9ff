-- Joined text whose segments are read one after the other from the text itself: what they mean so far, and at the end. Assumes nothing.
use mathlib.Core.Path.{◌≡◌, refl, ap, sym, ◌∙◌, subst}
use mathlib.Core.Bool.{Bool, true}
use mathlib.Core.List.{List, [], ◌++◌}
use Prim.Native.Nat.{ℕ, suc, ◌+◌, ◌≤◌}
use native.Mathlib.Omega.{arith}
use lib.ListN.{length, take, drop, length-drop}
use lib.Seq.{drop-drop}
use Rattle.meaning.specs.declared.Settings.{Settings}
use Rattle.meaning.specs.Walk.{give}
use Rattle.meaning.specs.Steps.{gap}
use Rattle.meaning.specs.Cutting.{segment, segment_by, segment_step, cut, continues}
use Rattle.meaning.specs.Reading.{written, means, alone, read}
use Rattle.laws.proofs.cutting.Gaps.{gap_fits}
use Rattle.laws.proofs.cutting.Openings.{segment_fits}
use Rattle.laws.proofs.cutting.Fronted.{Segmented}
use Rattle.laws.proofs.joining.Joins.{Joined, joined_none, joined_more, joined_end}

-- the segments before a place mean w
pub record Walked (σ : Settings) (t : List ℕ) (at : ℕ) (w : List ℕ) : Type 0 where
  pub joined : Joined (alone σ) (segment_step σ) t at (length w)
  pub got : joined.got ≡ w

pub walked_none : (σ : Settings) (t : List ℕ) → Walked σ t 0 []
unfolding joined_none
walked_none σ t = record { joined = joined_none (alone σ) (segment_step σ) t; got = refl }

module _ {σ : Settings} {t : List ℕ} {at : ℕ} {w : List ℕ} (j : Walked σ t at w) where
  -- one segment more, which ends at e, and the white space behind it
  pub walked_more : (o k : ℕ) (v : List ℕ) (p : Bool) (e : ℕ) → Segmented σ (drop at t) o k v p → e ≡ at + (o + k + 1) → Walked σ t (e + gap (drop e t)) (w ++ v)
  unfolding joined_more segment_step
  walked_more o k v p e s q =
      let u : List ℕ = drop at t in
      let one : o + k + 1 ≡ suc (o + k) = omega arith in
      let size : segment σ u ≡ suc (o + k) = s.size ∙ one in
      let fits = segment_fits σ u (o + k) size in
      let ends : at + suc (o + k) ≡ e = omega (arith, q) in
      let dd : drop (suc (o + k)) u ≡ drop e t = drop-drop (suc (o + k)) at t ∙ ap (λ (i : ℕ). drop i t) ends in
      let g = gap_fits (drop (suc (o + k)) u) in
      let step : segment_step σ u ≡ give (o + k + gap (drop (suc (o + k)) u)) (take (suc (o + k)) u) = ap (segment_by u) size in
      let reads : alone σ (take (suc (o + k)) u) ≡ means v = ap (λ (i : ℕ). alone σ (take i u)) (sym one) ∙ s.means in
      let place : at + suc (o + k + gap (drop (suc (o + k)) u)) ≡ e + gap (drop e t) = omega (arith, ap gap dd, q) in
      let room : at + suc (o + k + gap (drop (suc (o + k)) u)) ≤ length t =
      omega (arith, fits, g, length-drop at t, length-drop (suc (o + k)) u) in
      record {
        joined = joined_more (alone σ) j.joined (o + k + gap (drop (suc (o + k)) u)) (take (suc (o + k)) u) v (e + gap (drop e t)) (length (w ++ v))
            room step reads place (sym (lib.ListN.length-append w v));
        got = ap (◌++ v) j.got;
      }

  -- nothing is left of a text that continues
  pub walked_end : continues σ t ≡ true → length t ≤ at → read σ t ≡ written w
  unfolding read cut
  walked_end c h = rw (c, joined_end (alone σ) j.joined h, j.got)
