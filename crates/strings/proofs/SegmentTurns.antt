-- A text that is read segment by segment: where the loop stands, and what each way out of a turn answers. Assumes nothing.
use mathlib.Core.Path.{◌≡◌, refl, ap, ap₂, sym, ◌∙◌, subst}
use mathlib.Core.Bool.{Bool, true, false, ◌&&◌, ◌||◌, not, false≢true}
use borrow.Author.Tests.{not-false, eqb-true, eqb-false}
use mathlib.Core.List.{List, [], ◌∷◌, ◌++◌}
use Prim.Native.Nat.{ℕ, ◌+◌, ◌-◌, ◌≤◌, ◌<◌}
use native.Mathlib.Omega.{arith}
use lib.Dec.{eqb}
use lib.ListN.{length, take, drop}
use lib.Seq.{take_all}
use Rattle.meaning.specs.declared.Settings.{Settings}
use Rattle.meaning.specs.Bytes.{◌!◌, is_mark}
use Rattle.std.specs.Prelude.{if◌then◌else◌}
use Rattle.meaning.specs.Steps.{trim}
use Rattle.meaning.specs.Cutting.{continues}
use Rattle.meaning.specs.Reading.{borrowed, written, one}
use Rattle.laws.proofs.basics.Tests.{and_left, and_right, or_left}
use Rattle.laws.proofs.cutting.Fronted.{Segmented}
use Rattle.laws.proofs.joining.Walked.{Walked, walked_none, walked_more, walked_end}
use Rattle.strings.specs.declared.storing.Store.{Store}
use Rattle.strings.specs.declared.quick.Segment.{Segment}
use Rattle.strings.specs.Storing.{Stored}
use Rattle.strings.proofs.Cuts.{behind_gap}
use Rattle.strings.specs.Driving.{SegmentRead, ReadsSegment, DrivenBy, Drives}

-- where the loop stands: the segments before a place mean w, which is stored; behind the first the text is joined
pub record Going (σ : Settings) (t d : List ℕ) (at : ℕ) (s : Store) (chunk out : List ℕ) : Type 0 where
  pub w : List ℕ
  pub walked : Walked σ t at w
  pub stored : Stored d w chunk out s.total s.n
  pub size : length chunk ≡ 240
  pub inside : at ≤ length t
  pub few : s.n ≤ 240
  pub sum : s.total + s.n ≤ at
  pub joins : (at ≡ 0 → ⊥) → continues σ t ≡ true

pub going_none : (σ : Settings) (t d chunk : List ℕ) → length chunk ≡ 240 → Going σ t d 0 (record { total = 0; n = 0 }) chunk d
going_none σ t d chunk h = record {
  w = [];
  walked = walked_none σ t;
  stored = record { count = refl; held = refl; laid = λ h. refl; same = refl };
  size = h;
  inside = omega arith;
  few = omega arith;
  sum = omega arith;
  joins = λ n. absurd (n refl);
}

none_before : (w v : List ℕ) → length w ≡ 0 → w ++ v ≡ v
none_before [] v e = refl
none_before (b ∷ w) v e = absurd (omega arith)

module _ {σ : Settings} {t d : List ℕ} {at : ℕ} {s : Store} {chunk out : List ℕ} (i : Going σ t d at s chunk out)
    (g : Segment) (chunk' out' : List ℕ) (x : ReadsSegment σ t at s chunk out g chunk' out') where
  drives : {q : Segment} → (q.read ≡ true → DrivenBy σ t d q chunk' out') → Drives σ t d q chunk' out'
  drives r = record { out_same = x.out_same ∙ i.stored.same; chunk_same = x.chunk_same ∙ i.size; reads = r }

  -- several, of which the second does not begin with a mark
  pub drives_not : Drives σ t d (record { read = false; from = g.from; end = g.end; next = g.next; plain = g.plain; total = g.total; n = g.n }) chunk' out'
  drives_not = drives (λ h. absurd (false≢true h))

  module _ (rd : g.read ≡ true) where
    abbrev y : SegmentRead σ t at s chunk out g chunk' out'
    y = x.reads rd

    walked : Walked σ t g.next (i.w ++ y.v)
    walked = subst (λ (j : ℕ). Walked σ t j (i.w ++ y.v)) (sym y.passes)
        (walked_more i.walked y.o y.k y.v g.plain g.end y.segmented y.ends)

    stored : Stored d (i.w ++ y.v) chunk' out' g.total g.n
    stored = y.stores d i.w i.stored

    first : at ≡ 0 → Segmented σ t y.o y.k y.v g.plain
    first z = subst (λ (j : ℕ). Segmented σ (drop j t) y.o y.k y.v g.plain) z y.segmented

    alone : (eqb at 0 && eqb g.end (length t)) ≡ true → DrivenBy σ t d g chunk' out'
    alone e =
        let z = eqb-true at 0 (and_left (eqb at 0) (eqb g.end (length t)) e) in
        let all : length t ≡ y.o + y.k + 1 = omega (arith, z, y.ends, eqb-true g.end (length t) (and_right (eqb at 0) (eqb g.end (length t)) e)) in
        let until : y.o + y.k ≡ length t - 1 = omega (arith, all) in
        let from : y.o ≡ g.from = omega (arith, y.begins, z) in
        let text : t ≡ take (y.o + y.k + 1) t = sym (take_all (y.o + y.k + 1) t (omega (arith, all))) in
        record {
          w = y.v;
          reads = (first z).whole all ∙ ap (one σ) text ∙ (first z).reads ∙ ap₂ (λ (a b : ℕ). if g.plain then borrowed a b else written y.v) from until;
          stored = subst (λ (l : List ℕ). Stored d l chunk' out' g.total g.n) (none_before i.w y.v (omega (arith, i.stored.count, i.sum, z))) stored;
          sum = omega (arith, y.sum, y.inside);
          some = omega (arith, all);
        }

  -- nothing, or one segment that is all of the text
  pub drives_first : (not g.read || (eqb at 0 && eqb g.end (length t))) ≡ true → Drives σ t d g chunk' out'
  drives_first e = drives (λ h. alone h (rw h at e))

  module _ (f : (not g.read || (eqb at 0 && eqb g.end (length t))) ≡ false) where
    rd : g.read ≡ true
    rd = not-false g.read (or_left (not g.read) (eqb at 0 && eqb g.end (length t)) f)

    pub going_less : length t - g.next < length t - at
    going_less = let y = x.reads rd in omega (arith, y.goes, y.inside)

    -- joined text: behind its first segment stands a mark
    module _ (b : ℕ) (m : Bool) (eb : b ≡ t ! g.next) (em : m ≡ is_mark b) (e : (eqb at 0 && not m) ≡ false) where
      joins : continues σ t ≡ true
      joins = go (eqb at 0) refl e
        where
          go : (f : Bool) → eqb at 0 ≡ f → (f && not m) ≡ false → continues σ t ≡ true
          go false ef e = i.joins (eqb-false at 0 ef)
          go true ef e =
              let z = eqb-true at 0 ef in
              let y = x.reads rd in
              let end : y.o + y.k + 1 ≡ g.end = omega (arith, y.ends, z) in
              (first rd z).goes_on ∙ ap is_mark (ap (λ (j : ℕ). trim (drop j t) ! 0) end ∙ sym (ap (t !◌) y.passes ∙ behind_gap t g.end) ∙ sym eb)
              ∙ sym em ∙ not-false m e

      pub drives_joined : length t ≤ g.next
          → Drives σ t d (record { read = g.read; from = g.from; end = g.end; next = g.next; plain = false; total = g.total; n = g.n }) chunk' out'
      drives_joined l =
          drives (λ h. let y = x.reads h in
          record { w = i.w ++ y.v; reads = walked_end (walked h) joins l; stored = stored h; sum = omega (arith, y.sum, y.inside); some = omega (arith, y.goes, y.inside) })

      pub going_more : Going σ t d g.next (record { total = g.total; n = g.n }) chunk' out'
      going_more =
          let y = x.reads rd in
          record {
            w = i.w ++ y.v;
            walked = walked rd;
            stored = stored rd;
            size = x.chunk_same ∙ i.size;
            inside = y.inside;
            few = y.few;
            sum = y.sum;
            joins = λ n. joins;
          }
