-- Document 01's rule, "the text is accepted exactly when each segment is accepted alone": of every text that continues, by its cut (`cut_means`); and of
-- every text that cuts completely into two or more segments, the second beginning with a quote mark (`complete_means`, `complete_accepted`, `complete_utf8`),
-- over the string question too, with UTF-8 and room (`complete_written`, `complete_question`). The value is the segments' values, one after the other.
-- White space may stand behind the last segment. It says more than 01, which asks for white space between each two: none is asked for here. Assumes nothing.
use mathlib.Core.Logic.{◌↔◌}
use mathlib.Core.Path.{◌≡◌, refl, ap, sym, ◌∙◌}
use mathlib.Core.Bool.{Bool, true, false}
use mathlib.Core.List.{List, [], ◌∷◌, ◌++◌, flatten}
use Prim.Native.Nat.{ℕ, zero, suc, ◌+◌, ◌≤◌, ◌<◌}
use native.Mathlib.Omega.{arith}
use borrow.Author.Tests.{leb-true}
use lib.Dec.{leb}
use lib.ListN.{length, drop}
use lib.Seq.{length-take-le}
use Rattle.meaning.specs.declared.Settings.{Settings}
use Rattle.meaning.specs.declared.Literal.{Literal}
use Rattle.meaning.specs.declared.Refusal.TheVariants.{InvalidString, NoRoom}
use Rattle.meaning.specs.declared.Text.TheVariants.{Written}
use Rattle.meaning.specs.Answers.{text_number}
use Rattle.meaning.specs.Bytes.{◌!◌, is_mark}
use Rattle.std.specs.Prelude.{if◌then◌else◌}
use Rattle.meaning.specs.Chars.{utf8}
use Rattle.meaning.specs.Cutting.{continues, segment, segment_step, cut, complete}
use Rattle.meaning.specs.Questions.{is_string, told_as, string_question}
use Rattle.meaning.specs.Reading.{written, Value, means, fails, value_of, alone, joined, as_written, read, meaning}
use Rattle.meaning.specs.Steps.{gap}
use Rattle.meaning.specs.Walk.{walk}
use Rattle.laws.proofs.cutting.Alone.{segment_alone}
use Rattle.laws.proofs.questions.Asked.{Spans, string_question_reads, string_question_not_utf8}
use Rattle.laws.proofs.cutting.Cuts.{segments_of, covered, Each, Values, each_values, values_each, complete_covered, second_continues, cut_utf8}
use Rattle.laws.proofs.writing.Written.{lone}
use Rattle.laws.proofs.joining.Joining.{value_written}
use Rattle.laws.proofs.joining.JoiningLaw.{told_written}
use Rattle.laws.proofs.cutting.Openings.{segment_fits}
use Rattle.std.specs.Prelude.{Ok, Err}

-- a text that is one segment
pub record Whole (σ : Settings) (s : List ℕ) : Type 0 where
  pub some : 0 < length s
  pub all : segment σ s ≡ length s

abbrev pub Accepted : Settings → List ℕ → Type 0
Accepted σ t = (v : List ℕ) × (meaning σ t ≡ means v)

-- each segment is accepted alone, UTF-8 included, and there is room for all their values together
abbrev pub AllAccepted : Settings → List (List ℕ) → ℕ → Type 0
AllAccepted σ ss room =
    Each (λ t. utf8 t ≡ true) ss × (vs : List (List ℕ)) × Values (meaning σ) ss vs × (length (flatten vs) ≤ room)

module _ (σ : Settings) where
  -- a segment cut out of a text is one alone, and read alone
  cut_whole : (k : ℕ) (t : List ℕ) → Each (Whole σ) (segments_of (walk (segment_step σ) k t))
  unfolding segment_step
  cut_whole zero [] = tt
  cut_whole (suc k) [] = tt
  cut_whole (suc k) (b ∷ t) = cut_whole k t
  cut_whole zero (b ∷ t) = go (segment σ (b ∷ t)) refl (λ n. cut_whole n t)
    where
      go : (e : ℕ) → segment σ (b ∷ t) ≡ e → ((n : ℕ) → Each (Whole σ) (segments_of (walk (segment_step σ) n t)))
          → Each (Whole σ) (segments_of (walk (segment_step σ) 0 (b ∷ t)))
      go zero h ih = rw h tt
      go (suc e) h ih =
          rw h (
            record {
              some = omega arith;
              all = segment_alone σ (b ∷ t) e h ∙ sym (length-take-le (suc e) (b ∷ t) (segment_fits σ (b ∷ t) e h));
            },
            ih (e + gap (drop e t)),
          )

  pub alone_meaning : (s : List ℕ) → Whole σ s → alone σ s ≡ meaning σ s
  alone_meaning s w = ap (value_of s) (sym (lone σ s w.all))

  pub values_same : (f g : List ℕ → Value) → ((s : List ℕ) → Whole σ s → f s ≡ g s) → (ss vs : List (List ℕ)) → Each (Whole σ) ss
      → Values f ss vs → Values g ss vs
  values_same f g e [] [] w h = tt
  values_same f g e [] (v ∷ vs) w h = h
  values_same f g e (s ∷ ss) [] w h = h
  values_same f g e (s ∷ ss) (v ∷ vs) w h = (sym (e s w.0) ∙ h.0, values_same f g e ss vs w.1 h.1)

  pub continues_read : (t : List ℕ) → continues σ t ≡ true → read σ t ≡ as_written (joined σ (cut σ t))
  unfolding read
  continues_read t c = rw c

  joined_means : (t v : List ℕ) → continues σ t ≡ true → meaning σ t ≡ means v → joined σ (cut σ t) ≡ means v
  joined_means t v c h = sym (value_written t (joined σ (cut σ t))) ∙ ap (value_of t) (sym (continues_read t c)) ∙ h

  -- THE RULE of every text that continues
  pub cut_means : (t v : List ℕ) → continues σ t ≡ true
      → (meaning σ t ≡ means v)
      ↔ ((covered (cut σ t) ≡ true) × (vs : List (List ℕ)) × Values (meaning σ) (segments_of (cut σ t)) vs × (flatten vs ≡ v))
  unfolding cut
  cut_means t v c = (
    λ h.
        let r = each_values (alone σ) (cut σ t) v (joined_means t v c h) in
        (r.0, r.1, values_same (alone σ) (meaning σ) alone_meaning (segments_of (cut σ t)) r.1 (cut_whole 0 t) r.2, r.3),
    λ a.
        rw (
          continues_read t c,
          values_each (alone σ) (cut σ t) a.1 a.0
              (values_same (meaning σ) (alone σ) (λ s w. sym (alone_meaning s w)) (segments_of (cut σ t)) a.1 (cut_whole 0 t) a.2),
        )
        (ap means a.3),
  )

pub accepted_of : (σ : Settings) (ss vs : List (List ℕ)) → Values (meaning σ) ss vs → Each (Accepted σ) ss
accepted_of σ [] vs h = tt
accepted_of σ (s ∷ ss) [] h = absurd h
accepted_of σ (s ∷ ss) (v ∷ vs) h = ((v, h.0), accepted_of σ ss vs h.1)

pub values_of : (σ : Settings) (ss : List (List ℕ)) → Each (Accepted σ) ss → (vs : List (List ℕ)) × Values (meaning σ) ss vs
values_of σ [] a = ([], tt)
values_of σ (s ∷ ss) a = let r = values_of σ ss a.1 in (a.0.0 ∷ r.0, (a.0.1, r.1))

-- a text that cuts completely into two or more segments, the second beginning with a quote mark
pub record Several (σ : Settings) (t : List ℕ) : Type 0 where
  pub whole : complete σ t ≡ true
  pub first : List ℕ
  pub second : List ℕ
  pub others : List (List ℕ)
  pub are : segments_of (cut σ t) ≡ first ∷ (second ∷ others)
  pub mark : is_mark (second ! 0) ≡ true

-- THE RULE of such a text
module _ (σ : Settings) (t : List ℕ) (several : Several σ t) where
  pub complete_continues : continues σ t ≡ true
  complete_continues = second_continues σ t several.first several.second several.others several.are several.mark

  complete_covers : covered (cut σ t) ≡ true
  complete_covers = let n = ap length several.are in sym (complete_covered σ t (omega arith)) ∙ several.whole

  pub complete_means : (v : List ℕ)
      → (meaning σ t ≡ means v) ↔ ((vs : List (List ℕ)) × Values (meaning σ) (segments_of (cut σ t)) vs × (flatten vs ≡ v))
  complete_means v =
      let r = cut_means σ t v complete_continues in
      (λ h. let a = r.0 h in (a.1, a.2, a.3), λ a. r.1 (complete_covers, a.0, a.1, a.2))

  pub complete_accepted : Accepted σ t ↔ Each (Accepted σ) (segments_of (cut σ t))
  complete_accepted = (
    λ a. let r = (complete_means a.0).0 a.1 in accepted_of σ (segments_of (cut σ t)) r.0 r.1,
    λ a. let r = values_of σ (segments_of (cut σ t)) a in (flatten r.0, (complete_means (flatten r.0)).1 (r.0, r.1, refl)),
  )

  pub complete_read : (vs : List (List ℕ)) → Values (meaning σ) (segments_of (cut σ t)) vs → read σ t ≡ written (flatten vs)
  complete_read vs h =
      continues_read σ t complete_continues
      ∙ ap as_written (joined_means σ t (flatten vs) complete_continues ((complete_means (flatten vs)).1 (vs, h, refl)))

  pub complete_utf8 : (utf8 t ≡ true) ↔ Each (λ s. utf8 s ≡ true) (segments_of (cut σ t))
  unfolding cut
  complete_utf8 = cut_utf8 σ 0 t complete_covers

  -- over the string question: UTF-8, and room for all the values together
  module _ (l : Literal) (S out : List ℕ) (kind : is_string l.kind ≡ true) (spans : Spans l S t) where
    pub complete_written : (vs : List (List ℕ)) → Each (λ s. utf8 s ≡ true) (segments_of (cut σ t))
        → Values (meaning σ) (segments_of (cut σ t)) vs → length (flatten vs) ≤ length out
        → string_question l S σ out
        ≡ record { answer = Ok (Written (length (flatten vs))); buffer = flatten vs ++ drop (length (flatten vs)) out }
    complete_written vs u h room = told_written l S t (flatten vs) σ out kind spans (complete_utf8.1 u) (complete_read vs h) room

    by_room_lem : (v : List ℕ) (x : Bool) → leb (length v) (length out) ≡ x
        → text_number (if x then Ok (Written (length v)) else Err (NoRoom (length v))) ≡ 0 → length v ≤ length out
    by_room_lem v true e k = leb-true (length v) (length out) e
    by_room_lem v false e k = absurd (omega arith)

    by_value : (x : Value) → utf8 t ≡ true → read σ t ≡ as_written x
        → text_number (told_as (InvalidString l.span) l.span.start out (as_written x)).answer ≡ 0
        → AllAccepted σ (segments_of (cut σ t)) (length out)
    by_value (fails q) u e k = absurd (omega arith)
    by_value (means v) u e k =
        let m = (complete_means v).0 (ap (value_of t) e) in
        (complete_utf8.0 u, m.0, m.1, rw m.2 (by_room_lem v (leb (length v) (length out)) refl k))

    complete_answered : text_number (string_question l S σ out).answer ≡ 0 → AllAccepted σ (segments_of (cut σ t)) (length out)
    complete_answered h = by_utf8 (utf8 t) refl
      where
        by_utf8 : (x : Bool) → utf8 t ≡ x → AllAccepted σ (segments_of (cut σ t)) (length out)
        by_utf8 false u = let k = rw (string_question_not_utf8 l S t σ out kind spans u) at h in absurd (omega arith)
        by_utf8 true u =
            let e = continues_read σ t complete_continues in
            by_value (joined σ (cut σ t)) u e (rw (string_question_reads l S t σ out kind spans u, e) at h)

    pub complete_question : (text_number (string_question l S σ out).answer ≡ 0) ↔ AllAccepted σ (segments_of (cut σ t)) (length out)
    complete_question = (complete_answered, λ r. rw (complete_written r.1 r.0 r.2 r.3))
