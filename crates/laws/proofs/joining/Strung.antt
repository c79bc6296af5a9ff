-- Given segments strung together, white space between each two: the cut is these, and then the cut of what follows (`strung_cut`). Where only white space or
-- nothing follows, it is exactly these (`segments_cut`), so document 01's rule for complete texts holds of them (`segments_means`, `segments_accepted`,
-- `segments_written`, `segments_question`). Assumes nothing.
use mathlib.Core.Logic.{◌↔◌}
use mathlib.Core.Path.{◌≡◌, refl, ap, ◌∙◌}
use mathlib.Core.Bool.{true, false}
use mathlib.Core.List.{List, [], ◌∷◌, ◌++◌, map, flatten}
use Prim.Native.Nat.{ℕ, pred, ◌+◌, ◌≤◌}
use native.Mathlib.Omega.{arith}
use lib.ListN.{length, take, drop}
use lib.Seq.{take-append_seam, drop-append_seam, drop-append-add, drop-length, take-length, length-take-le}
use Rattle.meaning.specs.declared.Settings.{Settings}
use Rattle.meaning.specs.declared.Literal.{Literal}
use Rattle.meaning.specs.declared.Text.TheVariants.{Written}
use Rattle.meaning.specs.Answers.{text_number}
use Rattle.meaning.specs.Bytes.{◌!◌, is_mark}
use Rattle.meaning.specs.Chars.{utf8}
use Rattle.meaning.specs.Cutting.{continues, segment_step, cut}
use Rattle.meaning.specs.Questions.{is_string, string_question}
use Rattle.meaning.specs.Reading.{means, meaning}
use Rattle.meaning.specs.Steps.{gap, trim}
use Rattle.meaning.specs.Walk.{Trace, ended, gave, walk}
use Rattle.laws.proofs.questions.Asked.{Spans}
use Rattle.laws.proofs.cutting.Gaps.{gap_append, gap_fits}
use Rattle.laws.proofs.joining.Joining.{White, white_head, segment_solid}
use Rattle.laws.proofs.joining.JoiningLaw.{Gap}
use Rattle.laws.proofs.cutting.Openings.{segment_extend, mark_0}
use Rattle.laws.proofs.cutting.Cuts.{segments_of, covered, Each, Values, complete_covered}
use Rattle.laws.proofs.joining.Segments.{Whole, Accepted, AllAccepted, Several}
use Rattle.laws.proofs.joining.Segments as Rule
use Rattle.laws.proofs.walking.Walks.{walk_drop, graft}
use Rattle.laws.proofs.walking.Courses.{graft_ended}
use Rattle.std.specs.Prelude.{Ok}

-- behind the first segment, each with the white space before it
pub record Further (σ : Settings) : Type 0 where
  pub gap : List ℕ
  pub white : Gap gap
  pub text : List ℕ
  pub whole : Whole σ text

-- `tail` is the white space behind the last, or nothing
abbrev pub behind : {σ : Settings} → List (Further σ) → List ℕ → List ℕ
behind [] tail = tail
behind (p ∷ ps) tail = p.gap ++ (p.text ++ behind ps tail)

abbrev pub strung : {σ : Settings} → List ℕ → List (Further σ) → List ℕ → List ℕ
strung s ps tail = s ++ behind ps tail

abbrev pub segments : {σ : Settings} → List ℕ → List (Further σ) → List (List ℕ)
segments s ps = s ∷ map (λ p. p.text) ps

abbrev pub cut_of : {σ : Settings} → List ℕ → List (Further σ) → List ℕ → Trace
cut_of s [] tail = gave (pred (length s) + length tail) s ended
cut_of s (p ∷ ps) tail = gave (pred (length s) + length p.gap) s (cut_of p.text ps tail)

pub cut_of_segments : {σ : Settings} (s : List ℕ) (ps : List (Further σ)) (tail : List ℕ) → segments_of (cut_of s ps tail) ≡ segments s ps
cut_of_segments s [] tail = refl
cut_of_segments s (p ∷ ps) tail = ap (s ∷◌) (cut_of_segments p.text ps tail)

pub cut_of_covered : {σ : Settings} (s : List ℕ) (ps : List (Further σ)) (tail : List ℕ) → covered (cut_of s ps tail) ≡ true
cut_of_covered s [] tail = refl
cut_of_covered s (p ∷ ps) tail = cut_of_covered p.text ps tail

-- no mark stands behind a segment
pub gap_mark : (g r : List ℕ) → Gap g → is_mark ((g ++ r) ! 0) ≡ false
gap_mark [] r w = absurd (omega arith)
gap_mark (b ∷ g) r w = white_head b g w.white

tail_mark : (tail : List ℕ) → White tail → is_mark (tail ! 0) ≡ false
tail_mark [] w = mark_0
tail_mark (b ∷ g) w = white_head b g w

module _ (σ : Settings) where
  -- a segment, and a text behind it that begins with no mark
  pub cut_first : (s r : List ℕ) → Whole σ s → is_mark (r ! 0) ≡ false
      → cut σ (s ++ r) ≡ gave (pred (length s) + gap r) s (cut σ (trim r))
  unfolding cut segment_step
  cut_first [] r w m = absurd (omega arith)
  cut_first (b ∷ s) r w m =
      rw (segment_extend σ (b ∷ s) r (length s) m w.all, drop-append_seam s r, take-append_seam s r)
      (ap (gave (length s + gap r) (b ∷ s))
      (walk_drop (segment_step σ) (length s + gap r) (s ++ r) ∙ ap (walk (segment_step σ) 0) (drop-append-add s r (gap r))))

  pub gap_ends : (g s r : List ℕ) → Gap g → Whole σ s → gap (g ++ (s ++ r)) ≡ length g
  gap_ends g [] r w v = absurd (omega arith)
  gap_ends g (b ∷ s) r w v = gap_append g w.white b (s ++ r) (segment_solid σ b s (length s) v.all (s ++ r))

  -- the cut is these segments, and behind them the cut of what follows, any text that begins with no mark: the white space at its front belongs to the last
  pub strung_cut : (s : List ℕ) (ps : List (Further σ)) (tail : List ℕ) → Whole σ s → is_mark (tail ! 0) ≡ false
      → cut σ (strung s ps tail) ≡ graft (cut_of s ps (take (gap tail) tail)) (cut σ (trim tail))
  strung_cut s [] tail w m = rw (length-take-le (gap tail) tail (gap_fits tail)) (cut_first s tail w m)
  strung_cut s (p ∷ ps) tail w m =
      cut_first s (behind (p ∷ ps) tail) w (gap_mark p.gap (p.text ++ behind ps tail) p.white)
      ∙ rw (gap_ends p.gap p.text (behind ps tail) p.white p.whole, drop-append_seam p.gap (p.text ++ behind ps tail))
      (ap (gave (pred (length s) + length p.gap) s) (strung_cut p.text ps tail p.whole m))

  -- where only white space follows, exactly these segments
  pub segments_cut : (s : List ℕ) (ps : List (Further σ)) (tail : List ℕ) → Whole σ s → White tail → cut σ (strung s ps tail) ≡ cut_of s ps tail
  unfolding cut
  segments_cut s ps tail w z =
      strung_cut s ps tail w (tail_mark tail z) ∙ rw (z, drop-length tail, take-length tail) (graft_ended (cut_of s ps tail))

-- THE RULE of two or more such segments, the second beginning with a quote mark
module _ (σ : Settings) (s : List ℕ) (p : Further σ) (ps : List (Further σ)) (tail : List ℕ)
    (first : Whole σ s) (white : White tail) (mark : is_mark (p.text ! 0) ≡ true) where
  segments_are : segments_of (cut σ (strung s (p ∷ ps) tail)) ≡ segments s (p ∷ ps)
  segments_are = ap segments_of (segments_cut σ s (p ∷ ps) tail first white) ∙ cut_of_segments s (p ∷ ps) tail

  -- they cut completely
  pub segments_several : Several σ (strung s (p ∷ ps) tail)
  segments_several =
      record {
        whole =
            let n = ap length segments_are in
            complete_covered σ (strung s (p ∷ ps) tail) (omega arith)
            ∙ ap covered (segments_cut σ s (p ∷ ps) tail first white) ∙ cut_of_covered s (p ∷ ps) tail;
        first = s;
        second = p.text;
        others = map (λ p. p.text) ps;
        are = segments_are;
        mark = mark;
      }

  pub segments_continue : continues σ (strung s (p ∷ ps) tail) ≡ true
  segments_continue = Rule.complete_continues σ (strung s (p ∷ ps) tail) segments_several

  pub segments_means : (v : List ℕ)
      → (meaning σ (strung s (p ∷ ps) tail) ≡ means v)
      ↔ ((vs : List (List ℕ)) × Values (meaning σ) (segments s (p ∷ ps)) vs × (flatten vs ≡ v))
  segments_means v = rw segments_are at (Rule.complete_means σ (strung s (p ∷ ps) tail) segments_several v)

  pub segments_accepted : Accepted σ (strung s (p ∷ ps) tail) ↔ Each (Accepted σ) (segments s (p ∷ ps))
  segments_accepted = rw segments_are at (Rule.complete_accepted σ (strung s (p ∷ ps) tail) segments_several)

  module _ (l : Literal) (S out : List ℕ) (kind : is_string l.kind ≡ true) (spans : Spans l S (strung s (p ∷ ps) tail)) where
    pub segments_written : (vs : List (List ℕ)) → Each (λ t. utf8 t ≡ true) (segments s (p ∷ ps))
        → Values (meaning σ) (segments s (p ∷ ps)) vs → length (flatten vs) ≤ length out
        → string_question l S σ out
        ≡ record { answer = Ok (Written (length (flatten vs))); buffer = flatten vs ++ drop (length (flatten vs)) out }
    segments_written = rw segments_are at (Rule.complete_written σ (strung s (p ∷ ps) tail) segments_several l S out kind spans)

    pub segments_question : (text_number (string_question l S σ out).answer ≡ 0) ↔ AllAccepted σ (segments s (p ∷ ps)) (length out)
    segments_question = rw segments_are at (Rule.complete_question σ (strung s (p ∷ ps) tail) segments_several l S out kind spans)
